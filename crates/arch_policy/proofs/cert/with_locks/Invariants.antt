use Rattle.arch_policy.proofs.Common.{Adds, IsOfLeaf, Leaf, OfFirst, told}
use Rattle.arch_policy.proofs.cert.with_locks.Given as goal

abbrev pub invariant-loop-leaf : goal.invariant-loop-leaf
invariant-loop-leaf l = Adds (OfFirst (λ k (leaf : Leaf). IsOfLeaf (told l.tables) leaf) l.tables.flat.now.leaves l.leaf-index)
    l.fn.edges.items l.edges.items
