use Rattle.assigned_laws.proofs.TextReasons.{direct_texts}
use Rattle.assigned_laws.proofs.laws.direct_texts_are_reasoned.Goals as goal

pub returns : goal.returns
returns c = λ s sound spelled types. direct_texts s sound spelled types
