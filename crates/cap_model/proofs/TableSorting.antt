-- Sorting edges and dropping repeats: the list is in order, and has the edges that it had.
use Rattle.cap_model.proofs.Common.{Contains-dedup, Contains-from_dedup, Contains-permutation, Edge, IsPermutation, IsPermutation-sym, IsSorted, IsStrictlySortedBy, IsStrictlySortedBy-dedup, Less-from_sorted, List, [], dedup, get_or_from_slice_get}
use Rattle.cap_model.proofs.Common.{has, matches_eq-law, one_truth, slice_get_within, total-law, ◌≡◌}
use Rattle.std.specs.List.Retain.{IsFiltered, DiffersFromLast}
use Rattle.std.specs.List.Sorted.{IsSorted as IsInOrder}
use Rattle.std.proofs.lemmas.List.Filters.{dedup_is}
use Rattle.cap_model.specs.contracts.edge.EdgeOrd.TheImpl.{ghosts as ordered}
use Rattle.cap_model.specs.contracts.edge.EdgeEq.TheImpl.Laws.{laws-law}
use Rattle.cap_model.specs.contracts.edge.EdgePartialEq.TheImpl.{ghosts as compared}
use Rattle.cap_model.proofs.EdgeCompare.{eq-same, cmp-before}
use Rattle.cap_model.proofs.TableMembers.{contains_has, has_contains}

pub sorted_by_place : (edges : List Edge) → IsStrictlySortedBy ordered.cmp edges → IsSorted edges
sorted_by_place edges s = record {
  by_place = λ i j d e l p q.
      let less = Less-from_sorted ordered.cmp edges i j d s l (slice_get_within edges j e q) in
      cmp-before d e (rw (← get_or_from_slice_get edges i d d p, ← get_or_from_slice_get edges j e d q) less);
}

module _ (sorted kept : List Edge) (dedup_clause : IsFiltered (DiffersFromLast compared.eq) [] sorted kept) where
  pub sorted_then_dedup : IsInOrder ordered.cmp sorted → IsSorted kept
  sorted_then_dedup s = rw (dedup_is compared.eq sorted kept dedup_clause) (sorted_by_place (dedup compared.eq sorted)
      (IsStrictlySortedBy-dedup total-law matches_eq-law sorted s))

  pub has-sorted_then_dedup : (edges : List Edge) → IsPermutation edges sorted → (e : Edge) → has kept e ≡ has edges e
  has-sorted_then_dedup edges p e = rw (dedup_is compared.eq sorted kept dedup_clause)
      (one_truth (has (dedup compared.eq sorted) e) (has edges e)
      (λ h. contains_has edges e (Contains-permutation sorted edges e (IsPermutation-sym edges sorted p)
      (Contains-from_dedup compared.eq sorted e (has_contains (dedup compared.eq sorted) e h))))
      (λ h. contains_has (dedup compared.eq sorted) e (Contains-dedup laws-law eq-same sorted e
      (Contains-permutation edges sorted e p (has_contains edges e h)))))
