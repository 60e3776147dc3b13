-- Binary search in a table.
use Rattle.cap_model.proofs.Common.{AtMost, Bool, Edge, Equal, Err, Greater, IsBinarySearchResult, IsFirstFrom, IsPartitionPoint, IsSearchInRange, IsSorted, Less, List, Ok, Ordering, Result, Some, arith, cases_lt, false, get_or}
use Rattle.cap_model.proofs.Common.{get_or_from_slice_get, has, inl, inr, is_ok, length, ordering_index, refl, rules, slice_get, slice_get-get_or, slice_get_within, subst, sym, true, ℕ, ◌+◌, ◌<◌, ◌≡◌, ◌≤◌}
use Rattle.cap_model.specs.contracts.edge.EdgeOrd.TheImpl.{ghosts as ordered}
use Rattle.cap_model.proofs.EdgeOrder.{before_chain, not_before_self, not_before_at_most}
use Rattle.cap_model.proofs.EdgeCompare.{cmp-before, cmp-same, cmp-after}
use Rattle.cap_model.proofs.TableMembers.{has_at, at_has, later_at_most}

-- the answers of comparisons with one edge rise as the edges do
rises : (d e x : Edge) → AtMost d e → ordering_index (ordered.cmp d x) ≤ ordering_index (ordered.cmp e x)
rises d e x most = go (ordered.cmp d x) (ordered.cmp e x) refl refl where
  go : (a b : Ordering) → ordered.cmp d x ≡ a → ordered.cmp e x ≡ b → ordering_index a ≤ ordering_index b
  go Less b p q = omega arith
  go Equal Less p q = absurd (not_before_at_most e x (cmp-before e x q) (subst (λ (y : Edge). AtMost y e) (cmp-same d x p) most))
  go Equal Equal p q = omega arith
  go Equal Greater p q = omega arith
  go Greater Less p q = absurd (not_before_at_most e d (before_chain e x d (cmp-before e x q) (cmp-after d x p)) most)
  go Greater Equal p q =
      absurd (not_before_at_most x d (cmp-after d x p) (subst (λ (y : Edge). AtMost d y) (cmp-same e x q) most))
  go Greater Greater p q = omega arith

-- what a search of a table by binary search answers
pub is_ok-search : (edges : List Edge) (e : Edge) (found : Result ℕ ℕ) → IsSorted edges → IsSearchInRange found (length edges)
    → IsBinarySearchResult (λ d. ordered.cmp d e) edges found → is_ok found ≡ has edges e
is_ok-search edges e (Ok i) sorted within found =
    let here : get_or edges i e ≡ e = cmp-same (get_or edges i e) e (found e) in
    sym (has_at edges i e (subst (λ (x : Edge). slice_get edges i ≡ Some x) here (slice_get-get_or edges i e within)))
is_ok-search edges e (Err i) sorted within found = go (has edges e) refl where
  parted : IsPartitionPoint (λ d. ordered.cmp d e ≡ Less) (λ d. ordered.cmp d e ≡ Greater) edges i
  parted = grind (arith, rises, later_at_most, slice_get-get_or)

  go : (b : Bool) → has edges e ≡ b → false ≡ b
  go false h = refl
  go true h =
      let k = at_has edges e h in
      let l = slice_get_within edges k.0 e k.1 in
      let here : get_or edges k.0 e ≡ e = get_or_from_slice_get edges k.0 e e k.1 in
      search (rules, cases_lt, not_before_self, cmp-before, parted, cmp-after)

pub firsts_in_order : (edges : List Edge) (e : Edge) (label low high : ℕ) → IsFirstFrom edges label low
    → IsFirstFrom edges (label + 1) high → low ≤ high
firsts_in_order edges e label low high p q =
    elim (cases_lt high low) [
      | inl less ↦
          let b : low ≤ length edges = p.bound in
          let w : high < length edges = omega arith in
          let there = slice_get-get_or edges high e w in
          let f : (get_or edges high e).from < label = p.below high (get_or edges high e) less there in
          let g : label + 1 ≤ (get_or edges high e).from = q.above high (get_or edges high e) (omega arith) there in
          absurd (omega arith)
      | inr ge ↦ ge
    ]
