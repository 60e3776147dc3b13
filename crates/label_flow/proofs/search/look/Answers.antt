use Rattle.label_flow.proofs.Common.{AreBelow, Looks, Receive, Search, arith, get_or, length, refl, slice_get-get_or, slice_get_read, subst, sym, ℕ, ◌+◌, ◌∙◌}
use Rattle.label_flow.proofs.Searching.{head_below, looks_first, looks_last, looks_met, looks_past, passed_below, row_inside, row_is}
use Rattle.label_flow.proofs.search.look.Goals as goal
use Rattle.label_flow.proofs.search.look.Goals.{in-Some+in_ok-meet-in-Some, in-None}

pub bounds-exits-head : goal.bounds-exits-head
bounds-exits-head c =
    let below = head_below c.args.edges.now _ _ c.args.search.now c.args.at c.index-head.result.now c.requires.search
    c.requires.inside c.index-head.ensures in
    omega (arith, below, c.requires.exits.wide)

pub loop-place-init : goal.loop-place-init
loop-place-init c =
    let s = c.args.search.now in
    let got = slice_get_read s.found.items _ c.args.at c.index-head.result.now refl c.requires.inside c.index-head.ensures in
    looks_first c.args.edges.now _ _ _ c.args.at c.index-head.result.now c.as_slice-row.result.now c.requires.search got

pub bounds-edges-place : goal.bounds-edges-place
bounds-edges-place c =
    let edges = c.args.edges.now in
    let row = c.as_slice-row.result.now in
    let below = head_below edges _ _ c.args.search.now c.args.at c.index-head.result.now c.requires.search c.requires.inside
    c.index-head.ensures in
    let whole = row_is edges _ _ c.args.exits.now c.index-head.result.now.label row c.index-exits-head.result c.requires.exits
    below c.as_slice-row.ensures c.index-exits-head.is in
    row_inside edges _ _ c.args.exits.now c.index-head.result.now.label c.loop-place.place-index _ row c.requires.exits whole
    (slice_get-get_or row c.loop-place.place-index 0 c.loop-place-test.true)

pub offset_bounds-edges-place : goal.offset_bounds-edges-place
offset_bounds-edges-place c =
    let edges = c.args.edges.now in
    let row = c.as_slice-row.result.now in
    let below = head_below edges _ _ c.args.search.now c.args.at c.index-head.result.now c.requires.search c.requires.inside
    c.index-head.ensures in
    let whole = row_is edges _ _ c.args.exits.now c.index-head.result.now.label row c.index-exits-head.result c.requires.exits
    below c.as_slice-row.ensures c.index-exits-head.is in
    omega (
      arith,
      row_inside edges _ _ c.args.exits.now c.index-head.result.now.label c.loop-place.place-index _ row
          c.requires.exits whole (slice_get-get_or row c.loop-place.place-index 0 c.loop-place-test.true),
    )

pub meet-requires : goal.meet-requires
meet-requires c =
    let edges = c.args.edges.now in
    let row = c.as_slice-row.result.now in
    let i = c.loop-place.place-index in
    let head = head_below edges _ _ c.args.search.now c.args.at c.index-head.result.now c.requires.search c.requires.inside
    c.index-head.ensures in
    let whole = row_is edges _ _ c.args.exits.now c.index-head.result.now.label row c.index-exits-head.result c.requires.exits
    head c.as_slice-row.ensures c.index-exits-head.is in
    let here = slice_get-get_or row i 0 c.loop-place-test.true in
    let inside = row_inside edges _ _ c.args.exits.now c.index-head.result.now.label i _ row c.requires.exits whole here in
    let by = slice_get-get_or edges (get_or row i 0) (record { from = 0; authority = Receive; to = 0 }) inside in
    let below = subst (λ (n : ℕ). AreBelow n edges) (sym c.loop-place.invariant.wide) c.requires.below in
    passed_below edges _ _ c.loop-place.search c.args.at c.index-head.result.now row i _ c.loop-place.invariant here _ by
    c.in-Some.label below (sym c.in-Some.ensures)

pub loop-place-preserved : goal.loop-place-preserved
loop-place-preserved c =
    let edges = c.args.edges.now in
    let row = c.as_slice-row.result.now in
    let i = c.loop-place.place-index in
    let h = c.index-head.result.now in
    let head = head_below edges _ _ c.args.search.now c.args.at h c.requires.search c.requires.inside c.index-head.ensures in
    let whole = row_is edges _ _ c.args.exits.now h.label row c.index-exits-head.result c.requires.exits head
    c.as_slice-row.ensures c.index-exits-head.is in
    let here = slice_get-get_or row i 0 c.loop-place-test.true in
    let inside = row_inside edges _ _ c.args.exits.now h.label i _ row c.requires.exits whole here in
    let by = slice_get-get_or edges (get_or row i 0) (record { from = 0; authority = Receive; to = 0 }) inside in
    let below = subst (λ (n : ℕ). AreBelow n edges) (sym c.loop-place.invariant.wide) c.requires.below in
    elim c.match-passed_to.branch [
      | in-Some+in_ok-meet-in-Some w ↦
          let within = passed_below edges _ _ c.loop-place.search c.args.at h row i _ c.loop-place.invariant here _ by
          w.in-Some.label below (sym w.in-Some.ensures) in
          subst (λ (s : Search). Looks edges c.args.search.now.from (length c.args.search.now.places.items) s c.args.at h row
          (i + 1)) (sym w.search-is)
          (looks_met edges _ _ c.loop-place.search c.args.at h row i _ c.loop-place.invariant here _ by w.in-Some.label
          w.meet.new.self (sym w.in-Some.ensures) within w.in_ok-meet-in-Some.ensures.found
          w.in_ok-meet-in-Some.ensures.places w.in_ok-meet-in-Some.ensures.from)
      | in-None w ↦
          subst (λ (s : Search). Looks edges c.args.search.now.from (length c.args.search.now.places.items) s c.args.at h row
          (i + 1)) (sym w.search-is)
          (looks_past edges _ _ c.loop-place.search c.args.at h row i _ c.loop-place.invariant here _ by (sym c.passed_to.ensures
          ∙ w.in-None.is))
    ]

pub returns : goal.returns
returns c =
    let edges = c.args.edges.now in
    let row = c.as_slice-row.result.now in
    let h = c.index-head.result.now in
    let head = head_below edges _ _ c.args.search.now c.args.at h c.requires.search c.requires.inside c.index-head.ensures in
    let whole = row_is edges _ _ c.args.exits.now h.label row c.index-exits-head.result c.requires.exits head
    c.as_slice-row.ensures c.index-exits-head.is in
    looks_last edges _ _ c.loop-place.search c.args.at c.loop-place.place-index h c.args.exits.now row c.requires.exits whole
    c.loop-place-test.false c.loop-place.invariant
