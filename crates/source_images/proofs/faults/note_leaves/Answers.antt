use Rattle.source_images.proofs.Common.{listed_at}
use Rattle.source_images.proofs.faults.note_leaves.Goals as goal

pub note_leaf-requires-clause-leaf : goal.note_leaf-requires-clause-leaf
note_leaf-requires-clause-leaf c = c.requires.leaves _ (listed_at c.args.leaves.now c.loop-leaf.leaf-index c.loop-leaf-test.true)
