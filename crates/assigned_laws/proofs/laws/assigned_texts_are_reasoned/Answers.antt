use Rattle.assigned_laws.proofs.TextReasons.{assigned_differ, assigned_texts}
use Rattle.assigned_laws.proofs.laws.assigned_texts_are_reasoned.Goals as goal

pub returns : goal.returns
returns c = record {
  reasoned = λ s sound spelled types. assigned_texts s sound spelled types;
  differ = λ s sound spelled types. assigned_differ s sound spelled types;
}
