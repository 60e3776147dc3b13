use Rattle.system_spec.proofs.Common.{CNodeOf, OfDomain, Owned, [], gather_turn, get_or, get_or_default, part, refl, ◌∷◌}
use Rattle.system_spec.proofs.listing.numbered.Goals as goal

pub loop-number-preserved : goal.loop-number-preserved
loop-number-preserved c =
    let first : Owned = record { owner = OfDomain 0; what = CNodeOf 0 } in
    gather_turn (λ n (x : Owned). part c.args.series n x.owner x.what ∷ []) c.args.items.now _ c.loop-number.number
    (get_or c.args.items.now c.loop-number.number first) [] _ _ refl
    c.loop-number-test.true (get_or_default _ _ _ _ c.loop-number-test.true) c.loop-number.invariant c.in_ok-push.ensures.ok
