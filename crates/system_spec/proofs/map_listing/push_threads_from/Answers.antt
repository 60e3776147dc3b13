use Rattle.system_spec.proofs.Common.{ThreadLine, ThreadPlace, [], gather_turn, get_or_default, refl, ◌+◌, ◌∷◌}
use Rattle.system_spec.proofs.map_listing.push_threads_from.Goals as goal

pub loop-number-preserved : goal.loop-number-preserved
loop-number-preserved c =
    gather_turn (λ i (x : ThreadPlace). ThreadLine (c.args.first + i) x.leaf x.end ∷ []) c.args.threads.now c.args.threads.now
    c.loop-number.number _ c.args.lines.now _ _
    refl c.loop-number-test.true (get_or_default _ _ _ _ c.loop-number-test.true) c.loop-number.invariant c.in_ok-push.ensures.ok
