-- The first two regions that have an address in common.
use Rattle.front_laws.proofs.Common.{IsFirstOverlap, List, None, Option, Overlap, ShareAddress, Some, Untyped, [], and_parts, ap, arith, cases_eq, cases_lt, false, get_behind, get_front, get_or, get_or_from_slice_get, inl, inr, length, lt-ltb}
use Rattle.front_laws.proofs.Common.{ltb-true, map_some, nat_lt, option_map, option_or, position, refl, region_end, rules, shares, slice_get, slice_get-get_or, subst, sym, true, true≢false, ℕ, ◌&&◌, ◌++◌, ◌+◌, ◌<◌, ◌^◌, ◌∙◌, ◌∷◌, ◌≡◌, ◌≤◌, ◌⊎◌}
use Rattle.std.proofs.lemmas.List.Quantifiers.{position-Some}
use Rattle.boot_plan.specs.Overlaps.{first_overlap, overlap_at, overlap_behind}
use Rattle.boot_plan.proofs.Multiples.{power_pos}
use Rattle.front_laws.proofs.First.{First, IsClean, first_of, from_first, from_none}
use Rattle.front_laws.proofs.Places.{at_split, front_get, none_passes}

-- ---- two regions

shared : (r q : Untyped) → shares r q ≡ true → ShareAddress q r
shared r q t =
    let parts = and_parts (nat_lt r.paddr (region_end q)) (nat_lt q.paddr (region_end r)) t in
    let first : r.paddr < q.paddr + 2 ^ q.bits = ltb-true r.paddr (region_end q) parts.0 in
    let more = power_pos r.bits in
    elim (cases_lt r.paddr q.paddr) [
      | inl l ↦ record {
        address = q.paddr;
        low = omega arith;
        high = omega (arith, power_pos q.bits);
        other_low = omega (arith, l);
        other_high = ltb-true q.paddr (region_end r) parts.1;
      }
      | inr l ↦ record { address = r.paddr; low = l; high = first; other_low = omega arith; other_high = omega (arith, more) }
    ]

sharing : (r q : Untyped) → ShareAddress q r → shares r q ≡ true
sharing r q s = search (rules, nat_lt, lt-ltb)

-- ---- the walk

as_first : (before rs : List Untyped) → overlap_behind before rs ≡ first_of overlap_at before rs
as_first before [] = refl
as_first before (r ∷ rs) = ap (λ o. option_or (overlap_at before r) o) (as_first (before ++ r ∷ []) rs)

-- a number, with that of the region
abbrev numbered : ℕ → ℕ → ℕ × ℕ
numbered n k = (k, n)

none_at : (o : Option ℕ) (n : ℕ) → option_map (numbered n) o ≡ None → o ≡ None
none_at None n e = refl
none_at (Some k) n e = cc

-- where nothing is said of regions, none overlaps one in front of it
none_overlaps : (rs : List Untyped) → IsClean overlap_at [] rs → (i j : ℕ) → Overlap rs i j → ⊥
none_overlaps rs clean i j o = search (rules, at_split, front_get, none_passes, none_at, sharing)

-- the overlaps of a front
overlap_front : (p q : List Untyped) (i j : ℕ) → Overlap (p ++ q) i j → j < length p → Overlap p i j
overlap_front p q i j o l = search (rules, front_get, shared)

from_overlap : (rs : List Untyped) (i j : ℕ) → first_overlap rs ≡ Some (i, j) → IsFirstOverlap rs i j
from_overlap rs i j e =
    let f = from_first overlap_at [] rs (i, j) (sym (as_first [] rs) ∙ e) in
    let r = f.item in
    let m = map_some (numbered (length f.front)) (position (shares r) f.front) (i, j) f.says in
    let is_i : m.0 ≡ i = ap (λ (z : ℕ × ℕ). z.0) m.2 in
    let is_j : length f.front ≡ j = ap (λ (z : ℕ × ℕ). z.1) m.2 in
    let p = position-Some (shares r) f.front i r (m.1 ∙ ap Some is_i) in
    let there : slice_get f.front i ≡ Some (get_or f.front i r) = slice_get-get_or f.front i r p.0 in
    let P : List Untyped → Type 0 = λ z. slice_get z i ≡ Some (get_or f.front i r) in
    record {
      overlap = record {
        first = get_or f.front i r;
        second = r;
        at_first = subst P (sym f.split) (get_front f.front (r ∷ f.rest) i (get_or f.front i r) there);
        at_second = subst (λ z. slice_get z j ≡ Some r) (sym f.split) (get_behind f.front (r ∷ f.rest) 0 j (omega (arith, is_j)));
        order = omega (arith, p.0, is_j);
        shared = shared r (get_or f.front i r) p.1;
      };
      first = λ k l o. earliest f k l o (get_or f.front i r) p.2 is_j;
    }
  where
    earliest : (f : First overlap_at [] rs (i, j)) (k l : ℕ) → Overlap rs k l → Untyped
        → ((n : ℕ) → n < i → shares f.item (get_or f.front n f.item) ≡ false) → length f.front ≡ j → (j < l) ⊎ ((l ≡ j) × (i ≤ k))
    earliest f k l o x least is_j = elim (cases_lt j l) [
      | inl more ↦ inl more
      | inr most ↦ elim (cases_eq l j) [
        | inl same ↦ inr (same, late same)
        | inr other ↦
            let P : List Untyped → Type 0 = λ z. Overlap z k l in
            let less : l < length f.front = less_than other most in
            absurd (none_overlaps f.front f.clean k l (overlap_front f.front (f.item ∷ f.rest) k l (subst P f.split o) less))
      ]
    ]
      where
        less_than : (l ≡ j → ⊥) → l ≤ j → l < length f.front
        less_than n m = elim (cases_lt l j) [ inl y ↦ omega (arith, y, is_j) | inr y ↦ absurd (n (omega (arith, m, y))) ]

        late : l ≡ j → i ≤ k
        late same = elim (cases_lt k i) [
          | inr y ↦ y
          | inl y ↦
              let P : List Untyped → Type 0 = λ z. slice_get z k ≡ Some o.first in
              let Q : List Untyped → Type 0 = λ z. slice_get z l ≡ Some o.second in
              let here : slice_get f.front k ≡ Some o.first = search (rules, front_get) in
              let item : slice_get (f.front ++ f.item ∷ f.rest) l ≡ Some f.item = get_behind f.front (f.item ∷ f.rest) 0 l
              (omega (arith, same, is_j)) in
              let second : o.second ≡ f.item = let a = sym (subst Q f.split o.at_second) ∙ item in cc in
              let is_first = get_or_from_slice_get f.front k o.first f.item here in
              let t = sharing f.item o.first (subst (λ z. ShareAddress o.first z) second o.shared) in
              absurd (true≢false (sym t ∙ ap (shares f.item) (sym is_first) ∙ least k y))
        ]

pub none_from : (rs : List Untyped) → first_overlap rs ≡ None → (i j : ℕ) → Overlap rs i j → ⊥
none_from rs e = none_overlaps rs (from_none overlap_at [] rs (sym (as_first [] rs) ∙ e))

-- two that are both the first are the same
same_first : (rs : List Untyped) (i j k l : ℕ) → IsFirstOverlap rs i j → IsFirstOverlap rs k l → (i ≡ k) × (j ≡ l)
same_first rs i j k l a b = by_both (a.first k l b.overlap) (b.first i j a.overlap)
  where
    by_both : (j < l) ⊎ ((l ≡ j) × (i ≤ k)) → (l < j) ⊎ ((j ≡ l) × (k ≤ i)) → (i ≡ k) × (j ≡ l)
    by_both (inl x) (inl y) = absurd (omega (arith, x, y))
    by_both (inl x) (inr (y, z)) = absurd (omega (arith, x, y))
    by_both (inr (x, z)) (inl y) = absurd (omega (arith, x, y))
    by_both (inr (x, z)) (inr (y, w)) = (omega (arith, z, w), y)

pub overlaps : (rs : List Untyped) (i j : ℕ) → (first_overlap rs ≡ Some (i, j) → IsFirstOverlap rs i j) × (IsFirstOverlap rs i j
    → first_overlap rs ≡ Some (i, j))
overlaps rs i j = (from_overlap rs i j, λ f. by_case (first_overlap rs) refl f)
  where
    by_case : (o : Option (ℕ × ℕ)) → first_overlap rs ≡ o → IsFirstOverlap rs i j → first_overlap rs ≡ Some (i, j)
    by_case None e f = absurd (none_from rs e i j f.overlap)
    by_case (Some (k, l)) e f =
        let same = same_first rs k l i j (from_overlap rs k l e) f in
        e ∙ ap (λ z. Some (z, l)) same.0 ∙ ap (λ z. Some (i, z)) same.1

pub in_none_overlaps : (rs : List Untyped) → ((i j : ℕ) → Overlap rs i j → ⊥) → first_overlap rs ≡ None
in_none_overlaps rs none = by_case (first_overlap rs) refl
  where
    by_case : (o : Option (ℕ × ℕ)) → first_overlap rs ≡ o → first_overlap rs ≡ None
    by_case None e = e
    by_case (Some (k, l)) e = absurd (none k l (from_overlap rs k l e).overlap)
