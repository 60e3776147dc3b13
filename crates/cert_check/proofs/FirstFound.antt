-- What a walk through the edges finds first is least.
use Rattle.cert_check.proofs.Common.{AsyncSend, AtMost, BreaksBind, BreaksPolicy, Edge, Finds, FindsLeast, FindsLeastAt, Handle, IsFirstNotBefore, IsSorted, List, None, Reset, Some, Violation, ap, arith, at_has, cases_lt, edge, false, has}
use Rattle.cert_check.proofs.Common.{has_at, inr, length, number_of, refl, rules, slice_get, subst, sym, true, ℕ, ◌<◌, ◌≡◌, ◌≢◌, ◌≤◌}
use Rattle.cert_check.proofs.Search.{NoneUpTo, none_end, found_first}
use Rattle.cert_check.proofs.Violations.{at_first, first_of}

module _ (cert : List Edge) (P : Violation → Type 0) (named : (v : Violation) → P v → has cert v.first ≡ true) where
  pub edge_none : (i : ℕ) → length cert ≤ i → NoneUpTo P first_of cert i → FindsLeast P None
  edge_none i le before = none_end P first_of cert named i le before

  pub edge_found : (i : ℕ) (e : Edge) (v : Violation) → IsSorted cert → slice_get cert i ≡ Some e → NoneUpTo P first_of cert i
      → FindsLeastAt P e (Some v) → FindsLeast P (Some v)
  edge_found i e v sorted here before found = (
    found.0.0,
    λ w p.
        let first : AtMost e w.first = found_first P first_of cert named i e sorted before here w p in
        record {
          by_first = subst (λ (x : Edge). AtMost x w.first) (sym found.0.1) first;
          by_lack = λ x. (found.1 w (p, let s : v.first ≡ e = found.0.1 in cc)).by_lack x;
          by_second = λ x y. (found.1 w (p, let s : v.first ≡ e = found.0.1 in cc)).by_second x y;
        },
  )

abbrev pub AtFirst : (Violation → Type 0) → Edge → Violation → Type 0
AtFirst P e v = P v × (v.first ≡ e)

abbrev pub second_of : Violation → Edge
second_of v = v.second

module _ (cert : List Edge) (e : Edge) where
  named : (v : Violation) → AtFirst (BreaksBind cert) e v → has cert (second_of v) ≡ true
  named v p = p.0.there_too

  from_label : (v : Violation) → AtFirst (BreaksBind cert) e v → v.second.from ≡ e.from
  from_label v p = rw (← p.1) p.0.same

  number : (v : Violation) → AtFirst (BreaksBind cert) e v → number_of v.second.authority ≡ 2
  number v p = ap number_of p.0.sends

  pub bind_start : (low : ℕ) → IsFirstNotBefore cert (edge e.from AsyncSend 0) low
      → NoneUpTo (AtFirst (BreaksBind cert) e) second_of cert low
  bind_start low first = search (rules, from_label, number)

  pub bind_none : (high j : ℕ) → IsFirstNotBefore cert (edge e.from Reset 0) high → high ≤ j
      → NoneUpTo (AtFirst (BreaksBind cert) e) second_of cert j → FindsLeastAt (BreaksBind cert) e None
  bind_none high j past le before v p = search (rules, slice_get, at_has, named, cases_lt, from_label, number)

  pub bind_found : (j : ℕ) (other : Edge) → IsSorted cert → slice_get cert j ≡ Some other → has cert e ≡ true
      → NoneUpTo (AtFirst (BreaksBind cert) e) second_of cert j
      → e.authority ≡ Handle → other.authority ≡ AsyncSend → other.from ≡ e.from → other.to ≢ e.to
      → has cert (edge e.to AsyncSend other.to) ≡ false
      → FindsLeastAt (BreaksBind cert) e (Some (record { first = e; lack = edge e.to AsyncSend other.to; second = other }))
  bind_found j other sorted here there before handle sends same differ lacks = (
    (
      record {
        handle = handle;
        there = there;
        sends = sends;
        same = same;
        there_too = has_at cert j other here;
        differ = λ w. differ (sym w);
        redirected = refl;
        lacks = lacks;
      },
      refl,
    ),
    λ c p.
        let least : AtMost other c.second = found_first (AtFirst (BreaksBind cert) e) second_of cert named j other sorted
        before here c p in
        let to : e.to ≤ c.first.to = rw p.1 (omega arith) in
        let from : other.from ≡ c.second.from = rw (p.0.same, p.1, same) refl in
        let number : number_of other.authority ≡ number_of c.second.authority = rw (p.0.sends, sends) refl in
        record {
          by_first = at_first e c.first (sym p.1);
          by_lack = search (rules);
          by_second = λ w x. least;
        },
  )

abbrev pub itself : Edge → Edge
itself e = e

module _ (policy cert : List Edge) where
  pub outside_none : (i : ℕ) → length cert ≤ i → NoneUpTo (BreaksPolicy policy cert) itself cert i
      → Finds (BreaksPolicy policy cert) None
  outside_none i le before = none_end (BreaksPolicy policy cert) itself cert (λ e p. p.there) i le before

  pub outside_found : (i : ℕ) (e : Edge) → IsSorted cert → slice_get cert i ≡ Some e
      → NoneUpTo (BreaksPolicy policy cert) itself cert i
      → e.from ≢ e.to → has policy e ≡ false → Finds (BreaksPolicy policy cert) (Some e)
  outside_found i e sorted here before differ lacks = (
    record { there = has_at cert i e here; differ = differ; lacks = lacks },
    λ d p. found_first (BreaksPolicy policy cert) itself cert (λ x y. y.there) i e sorted before here d p,
  )
