use Rattle.system_spec.proofs.Common.{[], ap, arith, domain_locks, gather, length, lock, told, ◌++◌, ◌∙◌}
use Rattle.system_spec.proofs.Turning.{place_turn}
use Rattle.system_spec.proofs.listing.locks.Goals as goal

pub push_locks-requires : goal.push_locks-requires
push_locks-requires c = omega (arith, ap length c.uses_at.ensures, c.requires.uses c.loop-number.number)

pub loop-number-preserved : goal.loop-number-preserved
loop-number-preserved c =
    let t = told c.args.tables.now in
    place_turn (domain_locks t) t.flat.domains c.loop-number.number [] _ _
    (omega arith) c.loop-number.invariant (λ x. c.in_ok-push_locks.ensures
    ∙ ap (λ z. c.loop-number.items ++ gather (lock c.loop-number.number) z) c.uses_at.ensures)
