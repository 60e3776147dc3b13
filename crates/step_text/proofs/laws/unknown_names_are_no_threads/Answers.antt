use Rattle.step_text.proofs.Naming.{unknown_name}
use Rattle.step_text.proofs.laws.unknown_names_are_no_threads.Goals as goal

pub returns : goal.returns
returns c = unknown_name
