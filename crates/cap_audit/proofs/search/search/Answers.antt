use Rattle.cap_audit.proofs.Common.{arith, length, ◌+◌, ◌≤◌}
use Rattle.cap_audit.proofs.Looking.{begun, goes_further}
use Rattle.cap_audit.proofs.WaysMeeting.{queue_longer}
use Rattle.cap_audit.proofs.search.search.Goals as goal

pub loop-done-init : goal.loop-done-init
loop-done-init c = record {
  on = begun c.args.spec.now c.args.web.now c.args.hubs.now c.requires.search;
  within = omega arith;
}

pub loop-done-preserved : goal.loop-done-preserved
loop-done-preserved c =
    let less : c.loop-done.done + 1 ≤ length c.loop-done.web.findings.queue =
    omega (arith, c.loop-done-test.true, c.count.ensures) in
    record {
      on = goes_further c.args.spec.now _ _ _ _ _ _ c.loop-done.invariant.on c.in_ok-look.ensures;
      within = queue_longer c.loop-done.web.findings c.look.new.web.findings (c.loop-done.done + 1)
          c.in_ok-look.ensures.later.grows less;
    }
