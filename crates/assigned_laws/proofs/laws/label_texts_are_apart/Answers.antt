use Rattle.assigned_laws.proofs.LabelTexts.{texts_apart}
use Rattle.assigned_laws.proofs.Undotted.{undotted}
use Rattle.assigned_laws.proofs.laws.label_texts_are_apart.Goals as goal

pub returns : goal.returns
returns c = record {
  undotted = λ s sound spelled. undotted s spelled sound;
  apart = λ s sound spelled. texts_apart s sound (undotted s spelled sound);
}
