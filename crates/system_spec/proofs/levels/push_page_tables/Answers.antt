use Rattle.system_spec.proofs.Common.{Global, Level, [], gather_turn, get_or, get_or_default, page_table, refl, ◌∷◌}
use Rattle.system_spec.proofs.levels.push_page_tables.Goals as goal

pub loop-place-preserved : goal.loop-place-preserved
loop-place-preserved c =
    gather_turn (λ j (level : Level). page_table c.args.domain j level ∷ []) c.args.levels.now _ c.loop-place.place
    (get_or c.args.levels.now c.loop-place.place Global)
    c.args.all.now _ _ refl c.loop-place-test.true (get_or_default _ _ _ _ c.loop-place-test.true) c.loop-place.invariant
    c.in_ok-push.ensures.ok
