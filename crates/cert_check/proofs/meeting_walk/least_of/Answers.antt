use Rattle.cert_check.proofs.Common.{Some, ap, arith, edge, get_or, length, slice_get, slice_get-get_or, ◌<◌, ◌≡◌, ◌≤◌}
use Rattle.cert_check.proofs.Walks.{taken_start, taken_more, taken_end}
use Rattle.cert_check.proofs.meeting_walk.least_of.Goals as goal

pub returns : goal.returns
returns c =
    taken_end c.args.rule c.args.cert.now c.args.partners.now.ends.items c.args.met.edge c.args.met.low c.args.met.high
    c.loop-place.place c.loop-place.best c.requires.reach
    c.loop-place-test.false c.loop-place.invariant

pub loop-place-init : goal.loop-place-init
loop-place-init c = taken_start c.args.rule c.args.cert.now c.args.partners.now.ends.items c.args.met.edge c.args.met.low
    c.args.met.high c.requires.reach

pub loop-place-preserved : goal.loop-place-preserved
loop-place-preserved c =
    let ends = c.args.partners.now.ends.items in
    let bound : c.args.met.high ≤ length ends = c.requires.reach.bound in
    let less : c.loop-place.place < c.args.met.high = c.loop-place-test.true in
    let p = get_or ends c.loop-place.place (0, 0) in
    let here : slice_get ends c.loop-place.place ≡ Some p = slice_get-get_or ends c.loop-place.place (0, 0) (omega arith) in
    taken_more c.args.rule c.args.cert.now ends c.args.met.edge _ p c.loop-place.place c.loop-place.best c.meeting_at.result
    c.lesser-best.result c.loop-place.invariant here
    (ap (λ a. edge p.1 a p.0) c.partner-authority.ensures) (c.requires.reach.inside c.loop-place.place p c.loop-place.auto.place
    less here) c.requires.first
    (rw c.as_slice-ends.ensures.value at c.meeting_at.ensures) c.lesser-best.ensures
