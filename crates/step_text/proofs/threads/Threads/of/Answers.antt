use Rattle.step_text.proofs.Common.{arith, found_in}
use Rattle.step_text.proofs.Adding.{added_all}
use Rattle.step_text.proofs.threads.Threads.of.Goals as goal

pub returns : goal.returns
returns c = added_all c.args.spec.now c.as_slice-entries.result.now (found_in c.loop-place.threads) c.loop-place.place
    c.as_slice-entries.ensures (omega arith) c.loop-place.invariant
