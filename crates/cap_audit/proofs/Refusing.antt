-- The first capability to a thread.
use Rattle.std.proofs.Common.{rules}
use Rattle.cap_audit.proofs.Common.{Cap, Contains, Entry, HasNoThread, HoldsNoThread, IsFirstThread, IsKept, IsThreadSlot, List, None, Object, Option, Some, Spec, [], and_parts, arith, at_contains, cases_lt, contains_at, get_or, inl, inr}
use Rattle.cap_audit.proofs.Common.{is_at, keeps, leb, length, nat_lt, object_at, object_kept, refl, rest_rises, rise, slice_get, slice_get-get_or, slots_at, slots_of, subst, suc, sym, true, zero, ℕ, ◌&&◌, ◌+◌, ◌<◌, ◌^◌, ◌∷◌}
use Rattle.cap_audit.proofs.Common.{◌≡◌, ◌≤◌}
use Rattle.cap_model.specs.declared.kind.Kind.TheVariants as kinds
use Rattle.cap_model.specs.declared.object.Object.TheVariants as objects
use Rattle.cap_audit.proofs.Beginning.{slots_inside}
use Rattle.cap_audit.proofs.Quiet.{above}

object_rises : (spec : Spec) (object : Object) → keeps spec object ≡ true → rise (slots_of (Some object)) ≡ true
object_rises spec (objects.CNode bits slots) kept = search (rules, and_parts, nat_lt, leb)
object_rises spec _ kept = refl

slots_rise : (spec : Spec) (c : ℕ) → IsKept spec → rise (slots_at spec c) ≡ true
slots_rise spec c kept = go (object_at spec c) refl where
  go : (o : Option Object) → object_at spec c ≡ o → rise (slots_at spec c) ≡ true
  go None h = rw h refl
  go (Some object) h = rw h (object_rises spec object (object_kept spec c object kept h))

later_number : (slots : List (ℕ × Cap)) (j k : ℕ) (x y : ℕ × Cap) → rise slots ≡ true → j < k → slice_get slots j ≡ Some x
    → slice_get slots k ≡ Some y → x.0 < y.0
later_number [] j k x y rises less h g = absurd cc
later_number (z ∷ slots) zero (suc k) x y rises less h g =
    let same : z ≡ x = cc in
    subst (λ (w : ℕ × Cap). w.0 < y.0) same (above z slots y.0 y.1 rises (at_contains slots y k g))
later_number (z ∷ slots) (suc j) (suc k) x y rises less h g = later_number slots j k x y (rest_rises z slots rises)
    (omega arith) h g
later_number (z ∷ slots) _ zero x y rises less h g = absurd (omega arith)

-- no CNode before c holds one
pub NoneBefore : Spec → ℕ → Type 0
NoneBefore spec c = (d i : ℕ) (cap : Cap) → d < c → Contains (slots_at spec d) (i, cap)
    → is_at spec kinds.Thread cap.object ≡ true → ⊥

pub none_start : (spec : Spec) → NoneBefore spec 0
unfolding NoneBefore
none_start spec d i cap less there is = omega arith

pub none_more : (spec : Spec) (c : ℕ) → NoneBefore spec c → HasNoThread spec (slots_at spec c) → NoneBefore spec (c + 1)
unfolding NoneBefore
none_more spec c before here d i cap less there is = elim (cases_lt d c) [
  | inl below ↦ before d i cap below there is
  | inr ge ↦ (
      let same : d ≡ c = omega arith in
      let k = contains_at (slots_at spec d) (i, cap) there in
      here k.0 (i, cap) (subst (λ (n : ℕ). slice_get (slots_at spec n) k.0 ≡ Some (i, cap)) same k.1) is)
]

pub none_all : (spec : Spec) (c : ℕ) → length spec.entries ≤ c → NoneBefore spec c → HoldsNoThread spec
unfolding NoneBefore
none_all spec c all before d i cap there is =
    let k = contains_at (slots_at spec d) (i, cap) there in
    let inside = slots_inside spec d k.0 (i, cap) k.1 in
    before d i cap (omega arith) there is

pub first_found : (spec : Spec) (c i : ℕ) → IsKept spec → NoneBefore spec c → IsThreadSlot spec (slots_at spec c) i
    → IsFirstThread spec c i
unfolding NoneBefore
first_found spec c i kept before s = record {
  cap = s.slot.1;
  there = subst (λ (n : ℕ). Contains (slots_at spec c) (n, s.slot.1)) s.number
      (at_contains (slots_at spec c) s.slot s.place s.there);
  thread = s.thread;
  first = λ d n other there is. elim (cases_lt d c) [
    | inl below ↦ absurd (before d n other below there is)
    | inr ge ↦ elim (cases_lt c d) [
      | inl above ↦ inl above
      | inr le ↦ (
          let same : d ≡ c = omega arith in
          let k = contains_at (slots_at spec d) (n, other) there in
          let here : slice_get (slots_at spec c) k.0 ≡ Some (n, other) =
          subst (λ (m : ℕ). slice_get (slots_at spec m) k.0 ≡ Some (n, other)) same k.1 in
          inr (sym same, number_below k.0 n other here is))
    ]
  ];
} where
  number_below : (k n : ℕ) (other : Cap) → slice_get (slots_at spec c) k ≡ Some (n, other)
      → is_at spec kinds.Thread other.object ≡ true → i ≤ n
  number_below k n other here is = elim (cases_lt k s.place) [
    | inl below ↦ absurd (s.before k (n, other) below here is)
    | inr ge ↦ search (rules, cases_lt, later_number, slots_rise, slice_get)
  ]

pub slots_item : (spec : Spec) (t : ℕ) (d : Entry) → t < length spec.entries
    → slots_of (Some (get_or spec.entries t d).object) ≡ slots_at spec t
slots_item spec t d less = let e = slice_get-get_or spec.entries t d less in rw e refl
