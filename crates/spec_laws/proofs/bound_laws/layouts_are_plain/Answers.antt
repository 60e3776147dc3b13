use Rattle.spec_laws.proofs.SourcePlain.{layouts_are_plain}
use Rattle.spec_laws.proofs.bound_laws.layouts_are_plain.Goals as goal

pub returns : goal.returns
returns c = layouts_are_plain
