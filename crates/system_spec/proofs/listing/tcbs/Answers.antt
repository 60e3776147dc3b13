use Rattle.system_spec.proofs.Common.{[], ap, arith, domain_tcbs, length, threads_of, told, ◌++◌, ◌∙◌}
use Rattle.system_spec.proofs.Turning.{place_turn}
use Rattle.system_spec.proofs.listing.tcbs.Goals as goal

pub push_threads-requires : goal.push_threads-requires
push_threads-requires c = omega (arith, ap length c.threads_at.ensures, c.requires.threads c.loop-number.number)

pub loop-number-preserved : goal.loop-number-preserved
loop-number-preserved c =
    let t = told c.args.tables.now in
    place_turn (domain_tcbs t) t.flat.domains c.loop-number.number [] _ _
    (omega arith) c.loop-number.invariant (λ x. c.in_ok-push_threads.ensures
    ∙ ap (λ z. c.loop-number.items ++ threads_of c.loop-number.number z) c.threads_at.ensures)
