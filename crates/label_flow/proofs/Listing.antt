-- Labels below a bound, one edge more at a time.
use Rattle.label_flow.proofs.Common.{AreBelow, Contains, Contains-push_cases, Edge, List, arith, get_or, inl, inr, length, subst, take, take_more, ℕ, ◌+◌, ◌<◌, ◌≤◌}

pub below_more : (edges : List Edge) (i count more : ℕ) (d : Edge) → i < length edges → AreBelow count (take i edges)
    → count ≤ more → (get_or edges i d).from < more → (get_or edges i d).to < more
    → AreBelow more (take (i + 1) edges)
below_more edges i count more d within below less first second = record {
  ends =
      λ e there. elim (Contains-push_cases (take i edges) (get_or edges i d) e (subst (λ (xs : List Edge). Contains xs e)
      (take_more edges i d within) there)) [
        | inl old ↦ (let ends = below.ends e old in (let f = ends.0 in omega arith, let t = ends.1 in omega arith))
        | inr new ↦ (subst (λ (x : Edge). x.from < more) new first, subst (λ (x : Edge). x.to < more) new second)
      ];
}
