use Rattle.arch_policy.proofs.Common.{Leaf, [], gather_turn, joined, rank, refl, ◌∷◌}
use Rattle.arch_policy.proofs.labels.device_numbers.Goals as goal

pub loop-leaf-preserved : goal.loop-leaf-preserved
loop-leaf-preserved c =
    gather_turn (λ d (x : Leaf). rank c.args.texts.now (joined x.path) ∷ []) c.args.leaves.now _ c.loop-leaf.leaf-index
    _ [] _ _ refl
    c.loop-leaf-test.true c.leaf-item.is c.loop-leaf.invariant c.in_ok-push_number.ensures
