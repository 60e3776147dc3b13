-- Halving a table: what stands before a place, and what stands from one on.
use Rattle.cert_check.proofs.Common.{AtMost, Before, Edge, Halved, IsFirstNotBefore, IsSorted, List, Some, arith, at_most_before, at_most_trans, later_at_most, length, rules, slice_get, slice_get_within, ℕ, ◌+◌, ◌<◌, ◌≡◌, ◌≤◌}

module _ (edges : List Edge) (e : Edge) where
  pub halved_start : Halved edges e 0 (length edges)
  halved_start = search (rules, slice_get_within)

  pub halved_up : (low high m : ℕ) (d : Edge) → IsSorted edges → Halved edges e low high → m < high → slice_get edges m ≡ Some d
      → Before d e → Halved edges e (m + 1) high
  halved_up low high m d sorted h less here before = search (rules, at_most_before, later_at_most)

  pub halved_down : (low high m : ℕ) (d : Edge) → IsSorted edges → Halved edges e low high → low ≤ m → m < high
      → slice_get edges m ≡ Some d → AtMost e d → Halved edges e low m
  halved_down low high m d sorted h le less here most = search (rules, at_most_trans, later_at_most)

  pub halved_end : (low high : ℕ) → Halved edges e low high → high ≤ low → IsFirstNotBefore edges e low
  halved_end low high h le = record { below = h.below; above = λ k d l there. h.above k d (omega arith) there }
