use Rattle.assigned_laws.proofs.TextReasons.{lock_texts}
use Rattle.assigned_laws.proofs.laws.lock_texts_are_lock_edges.Goals as goal

pub returns : goal.returns
returns c = λ s sound spelled. lock_texts s sound spelled
