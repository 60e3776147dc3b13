use Rattle.arch_policy.proofs.Common.{IsOfLeaf, Leaf, List, all_first, ap, arith, first_more, length, read_place, told}
use Rattle.arch_policy.proofs.Locking.{all_leaves}
use Rattle.arch_policy.proofs.cert.with_locks.Goals as goal

pub loop-leaf-preserved : goal.loop-leaf-preserved
loop-leaf-preserved c =
    let t = told c.args.tables.now in
    let leaf = c.leaf-item.result in
    let here = read_place t.flat.leaves c.as_slice-leaf-items.result.now c.loop-leaf.leaf-index leaf c.as_slice-leaf-items.ensures
    c.loop-leaf-test.true c.leaf-item.is in
    first_more (λ k (leaf : Leaf). IsOfLeaf t leaf) t.flat.leaves c.loop-leaf.leaf-index leaf _ _ _ here c.loop-leaf.invariant
    c.in_ok-edges.ensures

pub returns : goal.returns
returns c =
    let t = told c.args.tables.now in
    let long = ap (λ (z : List Leaf). length z) c.as_slice-leaf-items.ensures in
    let past = c.loop-leaf-test.false in
    all_leaves t _ _ (all_first (λ k (leaf : Leaf). IsOfLeaf t leaf) t.flat.leaves c.loop-leaf.leaf-index _ _ (omega arith)
    c.loop-leaf.invariant)
