use Rattle.flat_laws.proofs.ShortTrees.{short_few}
use Rattle.flat_laws.proofs.laws.short_files_have_few_members.Goals as goal

pub returns : goal.returns
returns c = short_few
