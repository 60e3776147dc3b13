-- Edges that a walk passes over, since they have another authority.
use Rattle.cert_check.proofs.Common.{AreOthers, AtMost, Authority, Before, Edge, Halved, IsFirstFrom, IsFirstNotBefore, IsSorted, List, Some, ap, arith, cases_lt, edge, inr, later_at_most, number_of, refl, rules, slice_get, ℕ, ◌+◌, ◌<◌, ◌≡◌}

module _ (cert : List Edge) (at : ℕ) (e : Edge) (a : Authority) (sorted : IsSorted cert) (here : slice_get cert at ≡ Some e) where
  lesser : (k : ℕ) (d : Edge) → k < at + 1 → slice_get cert k ≡ Some d → AtMost d e
  lesser k d less there = later_at_most cert k at d e sorted (omega arith) there here

  -- ---- an edge of a lesser authority: the search for those of this one goes on behind it

  below : (d : Edge) → number_of e.authority < number_of a → AtMost d e → Before d (edge e.from a 0)
  below d less most = search (rules)

  pub skip_start : (past : ℕ) → number_of e.authority < number_of a → IsFirstFrom cert (e.from + 1) past
      → Halved cert (edge e.from a 0) at past
  skip_start past less first = search (rules, below, lesser)

  pub skip_on : (next : ℕ) → number_of e.authority < number_of a → IsFirstNotBefore cert (edge e.from a 0) next → at < next
  skip_on next less first = search (rules, cases_lt)

  pub skip_others : (next : ℕ) → IsFirstNotBefore cert (edge e.from a 0) next → AreOthers cert a at next
  skip_others next first k d le less there is =
      let b : Before d (edge e.from a 0) = first.below k d less there in
      let m : AtMost e d = later_at_most cert at k e d sorted le here there in
      let low = m.by_from in
      let high = b.by_from in
      let n : number_of d.authority ≡ number_of a = ap number_of is in
      let none : d.to < 0 = b.by_to (omega arith) n in
      omega arith

  -- ---- an edge of a greater authority: those of this one don't go out of its label

  pub past_on : (past : ℕ) → IsFirstFrom cert (e.from + 1) past → at < past
  past_on past first = search (rules, cases_lt)

  pub past_others : (past : ℕ) → number_of a < number_of e.authority → IsFirstFrom cert (e.from + 1) past
      → AreOthers cert a at past
  past_others past greater first k d le less there is = search (rules, later_at_most)
