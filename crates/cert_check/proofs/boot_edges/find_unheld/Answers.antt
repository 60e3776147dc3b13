use Rattle.cert_check.proofs.Common.{Entry, Some, get_or, length, slice_get, slice_get-get_or, ◌≡◌, ◌≤◌}
use Rattle.cert_check.proofs.Unheld.{unheld_more, unheld_end}
use Rattle.cert_check.proofs.boot_edges.find_unheld.Goals as goal

pub loop-place-preserved : goal.loop-place-preserved
loop-place-preserved c =
    let entry : Entry = get_or c.as_slice-entries.result.now c.loop-place.place c.index-entries-place.result in
    let here : slice_get c.args.spec.now.entries c.loop-place.place ≡ Some entry =
    rw (← c.as_slice-entries.ensures) (slice_get-get_or c.as_slice-entries.result.now c.loop-place.place
    c.index-entries-place.result c.loop-place-test.true)
    in
    unheld_more c.args.spec.now c.args.labels.now.by_object c.args.cert.now c.loop-place.place entry c.loop-place.best
    c.object_lack-lack.result c.lesser_edge-best.result
    here c.loop-place.invariant (rw c.as_slice-from.ensures at c.object_lack-lack.ensures) c.lesser_edge-best.ensures

pub returns : goal.returns
returns c =
    let le : length c.args.spec.now.entries ≤ c.loop-place.place = rw (← c.as_slice-entries.ensures) c.loop-place-test.false in
    unheld_end c.args.spec.now c.args.labels.now.by_object c.args.cert.now c.loop-place.place c.loop-place.best le
    c.loop-place.invariant
