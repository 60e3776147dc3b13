use Rattle.vspace_layout.proofs.Common.{Stack, region, starting}
use Rattle.vspace_layout.proofs.MemoryNumbers.{copy_turn}
use Rattle.vspace_layout.proofs.mapped.push_regions.Goals as goal

pub loop-number-preserved : goal.loop-number-preserved
loop-number-preserved c =
    copy_turn (starting c.args.wiring.now.settled c.args.starts.now) c.args.regions.now c.loop-number.number (region Stack 0)
    c.args.pages.now.items c.loop-number.pages.items _ c.loop-number-test.true c.loop-number.invariant c.in_ok-push_region.ensures
