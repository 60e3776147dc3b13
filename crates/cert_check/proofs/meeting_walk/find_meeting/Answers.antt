use Rattle.cert_check.proofs.Common.{arith}
use Rattle.cert_check.proofs.Walks.{covers_more, covers_end}
use Rattle.cert_check.proofs.meeting_walk.find_meeting.Goals as goal

pub loop-next-preserved : goal.loop-next-preserved
loop-next-preserved c =
    covers_more c.args.rule c.args.cert.now c.loop-next.next c.gather-next.result c.gather-next.new.self.ends.items
    c.loop-next.best c.least_by.result c.lesser-best.result
    c.len.ensures.sorted c.loop-next.invariant c.gather-next.ensures.partners c.least_by.ensures c.lesser-best.ensures

pub returns : goal.returns
returns c =
    covers_end c.args.rule c.args.cert.now c.loop-next.next c.loop-next.best (let l = c.len.ensures.len in
    let t = c.loop-next-test.false in omega arith) c.loop-next.invariant
