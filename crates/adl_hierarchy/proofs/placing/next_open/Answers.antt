use Rattle.adl_hierarchy.proofs.Common.{arith}
use Rattle.adl_hierarchy.proofs.Marks.{has_at}
use Rattle.adl_hierarchy.proofs.placing.next_open.Goals as goal

pub contains-requires : goal.contains-requires
contains-requires c = c.requires.range _ (has_at c.args.inner.now c.loop-next.next (omega arith))
