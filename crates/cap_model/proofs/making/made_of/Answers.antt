use Rattle.cap_model.proofs.Common.{Edge, IsMade, IsPartitionPoint, IsPartitionPoint-from_clause, IsPartitionedBy, IsRun, IsSorted, List, Receive, Row, Some, ap, arith, drop, false, get_or, inl, inr, length, length-drop, length-take-le, nat_le}
use Rattle.cap_model.proofs.Common.{rules, slice_get, slice_get-get_or, subst, sym, take, true, ℕ, ◌++◌, ◌-◌, ◌<◌, ◌∙◌, ◌≡◌}
use Rattle.cap_model.proofs.MadeRows.{pushed}
use Rattle.cap_model.proofs.Runs.{whole, froms_parted, next_run, some_run, behind_run, run_taken, sorted_to_run}
use Rattle.cap_model.proofs.making.made_of.Goals as goal

pub with_row-requires : goal.with_row-requires
with_row-requires c =
    let at : ℕ = c.loop-at.at in
    let n : ℕ = c.partition_point-count.result in
    let sorted : IsSorted c.args.edges.now = c.requires in
    let first : Edge = get_or c.args.edges.now at (record { from = 0; authority = Receive; to = 0 }) in
    let here : slice_get c.args.edges.now at ≡ Some first =
    slice_get-get_or c.args.edges.now at (record { from = 0; authority = Receive; to = 0 }) c.loop-at-test.true in
    let rest : List Edge = take (length c.args.edges.now - at) (drop at c.args.edges.now) in
    let is_rest : rest ≡ drop at c.args.edges.now = whole c.args.edges.now at in
    let parted : IsPartitionedBy (λ (e : Edge). nat_le e.from first.from) rest =
    subst (λ es. IsPartitionedBy (λ (e : Edge). nat_le e.from first.from) es) (sym is_rest)
    (froms_parted c.args.edges.now at first.from sorted) in
    let point = IsPartitionPoint-from_clause (λ (e : Edge). nat_le e.from first.from) rest n
    c.partition_point-count.ensures.partitioned parted (λ a r f k. search rules) in
    let point' : IsPartitionPoint (λ (e : Edge). nat_le e.from first.from ≡ true) (λ (e : Edge). nat_le e.from first.from ≡ false)
    (drop at c.args.edges.now) n =
    subst (λ es. IsPartitionPoint (λ (e : Edge). nat_le e.from first.from ≡ true) (λ (e : Edge). nat_le e.from first.from ≡ false)
    es n) is_rest point in
    record {
      run = subst (λ es. IsRun first.from (take n es)) (sym is_rest) (next_run c.args.edges.now at n first sorted
          here point');
    }

pub loop-at-smaller : goal.loop-at-smaller
loop-at-smaller c =
    let at : ℕ = c.loop-at.at in
    let n : ℕ = c.partition_point-count.result in
    let sorted : IsSorted c.args.edges.now = c.requires in
    let first : Edge = get_or c.args.edges.now at (record { from = 0; authority = Receive; to = 0 }) in
    let here : slice_get c.args.edges.now at ≡ Some first =
    slice_get-get_or c.args.edges.now at (record { from = 0; authority = Receive; to = 0 }) c.loop-at-test.true in
    let rest : List Edge = take (length c.args.edges.now - at) (drop at c.args.edges.now) in
    let is_rest : rest ≡ drop at c.args.edges.now = whole c.args.edges.now at in
    let parted : IsPartitionedBy (λ (e : Edge). nat_le e.from first.from) rest =
    subst (λ es. IsPartitionedBy (λ (e : Edge). nat_le e.from first.from) es) (sym is_rest)
    (froms_parted c.args.edges.now at first.from sorted) in
    let point = IsPartitionPoint-from_clause (λ (e : Edge). nat_le e.from first.from) rest n
    c.partition_point-count.ensures.partitioned parted (λ a r f k. search rules) in
    let point' : IsPartitionPoint (λ (e : Edge). nat_le e.from first.from ≡ true) (λ (e : Edge). nat_le e.from first.from ≡ false)
    (drop at c.args.edges.now) n =
    subst (λ es. IsPartitionPoint (λ (e : Edge). nat_le e.from first.from ≡ true) (λ (e : Edge). nat_le e.from first.from ≡ false)
    es n) is_rest point in
    let some = some_run c.args.edges.now at n first sorted here point' in
    let within = c.loop-at-test.true in
    omega arith

pub loop-at-preserved : goal.loop-at-preserved
loop-at-preserved c =
    let at : ℕ = c.loop-at.at in
    let n : ℕ = c.partition_point-count.result in
    let sorted : IsSorted c.args.edges.now = c.requires in
    let first : Edge = get_or c.args.edges.now at (record { from = 0; authority = Receive; to = 0 }) in
    let here : slice_get c.args.edges.now at ≡ Some first =
    slice_get-get_or c.args.edges.now at (record { from = 0; authority = Receive; to = 0 }) c.loop-at-test.true in
    let rest : List Edge = take (length c.args.edges.now - at) (drop at c.args.edges.now) in
    let is_rest : rest ≡ drop at c.args.edges.now = whole c.args.edges.now at in
    let parted : IsPartitionedBy (λ (e : Edge). nat_le e.from first.from) rest =
    subst (λ es. IsPartitionedBy (λ (e : Edge). nat_le e.from first.from) es) (sym is_rest)
    (froms_parted c.args.edges.now at first.from sorted) in
    let point = IsPartitionPoint-from_clause (λ (e : Edge). nat_le e.from first.from) rest n
    c.partition_point-count.ensures.partitioned parted (λ a r f k. search rules) in
    let point' : IsPartitionPoint (λ (e : Edge). nat_le e.from first.from ≡ true) (λ (e : Edge). nat_le e.from first.from ≡ false)
    (drop at c.args.edges.now) n =
    subst (λ es. IsPartitionPoint (λ (e : Edge). nat_le e.from first.from ≡ true) (λ (e : Edge). nat_le e.from first.from ≡ false)
    es n) is_rest point in
    let old = c.loop-at.invariant in
    let low = old.within in
    let bound = c.partition_point-count.ensures.bound in
    let long : length rest ≡ length c.args.edges.now - at = ap (λ (es : List Edge). length es) is_rest
    ∙ length-drop at c.args.edges.now in
    let new = c.in_ok-made.ensures (take at c.args.edges.now) old.made (sym (length-take-le at c.args.edges.now old.within))
    (λ i r e. old.below i at r first e (omega arith) here)
    (subst (λ es. IsSorted (take at c.args.edges.now ++ take n es)) (sym is_rest) (sorted_to_run c.args.edges.now at n first
    sorted here point')) in
    record {
      within = omega arith;
      made = subst (λ es. IsMade es c.in_ok-made.made) (ap (λ es. take at c.args.edges.now ++ take n es) is_rest
          ∙ run_taken c.args.edges.now at n first sorted here point') new.made;
      below =
          λ i j r d e le p. elim (pushed c.loop-at.made.rows.items new.row i r (subst (λ (rs : List Row). slice_get rs i ≡ Some r)
          new.rows e)) [
            | inl h ↦ old.below i j r d h (omega arith) p
            | inr h ↦ subst (λ (s : Row). s.label < d.from) h.1 (subst (λ (l : ℕ). l < d.from) (sym new.label_is)
                (behind_run c.args.edges.now at n first sorted here point' j d le p))
          ];
    }
