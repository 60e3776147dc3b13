use Rattle.least_cert.proofs.Common.{Entry, OfHolder, OfOther, Some, all_first, first_more, label_of, refl, slice_get, slice_get_read, ◌≡◌}
use Rattle.least_cert.proofs.boot.gathered.Goals as goal

pub loop-place-preserved : goal.loop-place-preserved
loop-place-preserved c =
    let labels = c.args.labels.now.by_object in
    let here : slice_get c.args.spec.now.entries c.loop-place.place ≡ Some c.index-entries-place.result
    = rw (← c.as_slice-entries.ensures) (slice_get_read c.as_slice-entries.result.now _ c.loop-place.place
    c.index-entries-place.result refl c.loop-place-test.true c.index-entries-place.is) in
    record {
      nodes =
          first_more (λ place (entry : Entry). OfHolder c.args.spec.now labels (label_of labels place) entry.object)
          c.args.spec.now.entries c.loop-place.place c.index-entries-place.result
          _ _ _ here c.loop-place.invariant.nodes (rw (c.as_slice-from.ensures, ← c.index-entries-place.is) at
          c.in_ok-sources.ensures.nodes);
      others =
          first_more (λ place (entry : Entry). OfOther c.args.spec.now labels (label_of labels place) entry.object)
          c.args.spec.now.entries c.loop-place.place c.index-entries-place.result
          _ _ _ here c.loop-place.invariant.others (rw (c.as_slice-from.ensures, ← c.index-entries-place.is) at
          c.in_ok-sources.ensures.others);
    }

pub returns-clause-nodes : goal.returns-clause-nodes
returns-clause-nodes c =
    let labels = c.args.labels.now.by_object in
    all_first (λ place (entry : Entry). OfHolder c.args.spec.now labels (label_of labels place) entry.object)
    c.args.spec.now.entries c.loop-place.place
    _ _ (rw (← c.as_slice-entries.ensures) c.loop-place-test.false) c.loop-place.invariant.nodes

pub returns-clause-others : goal.returns-clause-others
returns-clause-others c =
    let labels = c.args.labels.now.by_object in
    all_first (λ place (entry : Entry). OfOther c.args.spec.now labels (label_of labels place) entry.object)
    c.args.spec.now.entries c.loop-place.place
    _ _ (rw (← c.as_slice-entries.ensures) c.loop-place-test.false) c.loop-place.invariant.others
