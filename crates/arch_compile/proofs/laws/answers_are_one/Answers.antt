use Rattle.arch_compile.proofs.OneAnswer.{one_build}
use Rattle.arch_compile.proofs.laws.answers_are_one.Goals as goal

pub returns : goal.returns
returns c = one_build
