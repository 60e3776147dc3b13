use Rattle.cap_machine.proofs.Common.{Entry, OfFixed, label_of, refl, slice_get_read}
use Rattle.cap_machine.proofs.Gathering.{first_more, all_first}
use Rattle.cap_machine.proofs.edges.with_spec_parts.Goals as goal

pub loop-place-preserved : goal.loop-place-preserved
loop-place-preserved c =
    first_more (λ place (entry : Entry). OfFixed c.args.spec.now c.args.labels.now.by_object
    (label_of c.args.labels.now.by_object place) entry.object) c.args.spec.now.entries c.loop-place.place
    c.index-entries-place.result
    _ _ _ (rw (← c.as_slice-entries.ensures) (slice_get_read c.as_slice-entries.result.now _ c.loop-place.place
    c.index-entries-place.result refl c.loop-place-test.true c.index-entries-place.is))
    c.loop-place.invariant (rw (c.as_slice-from.ensures, ← c.index-entries-place.is) at c.in_ok-edges.ensures)

pub returns : goal.returns
returns c =
    all_first (λ place (entry : Entry). OfFixed c.args.spec.now c.args.labels.now.by_object
    (label_of c.args.labels.now.by_object place) entry.object) c.args.spec.now.entries c.loop-place.place
    _ _ (rw (← c.as_slice-entries.ensures) c.loop-place-test.false) c.loop-place.invariant
