use Rattle.arch_compile.proofs.Common.{acts_begin_then, acts_one, open_begun}
use Rattle.arch_compile.proofs.write.write_capdl.Goals as goal

pub write_spec-requires : goal.write_spec-requires
write_spec-requires g c = open_begun _ _ 2 _ c.in_ok-begin.ensures.ok

pub returns : goal.returns
returns g c = acts_begin_then c.in_ok-begin.ensures.ok c.in_ok-begin.ensures.later (acts_one c.write_spec.ensures)
