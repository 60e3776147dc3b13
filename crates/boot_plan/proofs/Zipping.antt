-- A loop over the objects of a spec and their places.
use Rattle.boot_plan.proofs.Common.{Block, CNode, DevicePage, Endpoint, Entry, Frame, Irq, IsKept, List, Need, None, Nothing, Notification, Object, Option, Pages, Some, Spec, Thread, and_parts, ap, arith, bits_of, bytes_placed, get_or}
use Rattle.boot_plan.proofs.Common.{get_or-zip, has_few_bits, is_some, is_usual, keeps, leb, length, length-zip, min, nat_lt, nat_tests, need, one_placed, refl, sum_by, sum_by_more, sym, take, take_all, true, zip, ℕ, ◌&&◌, ◌+◌}
use Rattle.boot_plan.proofs.Common.{rules, ◌<◌, ◌^◌, ◌∙◌, ◌≡◌, ◌≤◌}
use Rattle.boot_plan.proofs.Powers.{pow_le}
use Rattle.boot_plan.proofs.Usual.{all_got, object_usual}
use mir.Val.{bool_byte}

-- the pair that a turn has, of so many before
pub record Turn (entries : List Entry) (places : List (Option ℕ)) (n : ℕ) (entry : Entry) (place : Option ℕ) : Type 0 where
  pub few : n < length entries
  pub within : n < length (zip entries places)
  pub entry_is : entry ≡ get_or entries n entry
  pub is : (entry, place) ≡ get_or (zip entries places) n (entry, place)

pub turn : (entries : List Entry) (places : List (Option ℕ)) (n : ℕ) (entry : Entry) (place : Option ℕ)
    → (n < length entries) × (n < length places) × ((d : Entry) → entry ≡ get_or entries n d) × ((d : Option ℕ)
    → place ≡ get_or places n d) → Turn entries places n entry place
turn entries places n entry place h = search (rules, length-zip, get_or-zip)

-- behind the last turn
pub turned : (entries : List Entry) (places : List (Option ℕ)) (n : ℕ) → n ≡ min (length entries) (length places)
    → length (zip entries places) ≤ n
turned entries places n h = omega (arith, length-zip entries places, h)

object_few : (spec : Spec) (object : Object) → keeps spec object ≡ true → has_few_bits object ≡ true
object_few spec Endpoint h = refl
object_few spec Notification h = refl
object_few spec (CNode bits slots) h = search (rules, and_parts, nat_lt, leb)
object_few spec (Thread tcb) h = refl
object_few spec (Frame paddr fill) h = refl
object_few spec (Pages level slots) h = refl
object_few spec (Irq notification) h = refl

-- the object of a turn keeps what the spec keeps
kept_turn : (spec : Spec) (places : List (Option ℕ)) (n : ℕ) (entry : Entry) (place : Option ℕ) → IsKept spec
    → Turn spec.entries places n entry place → keeps spec entry.object ≡ true
kept_turn spec places n entry place kept t = search (rules, all_got)

pub few_turn : (spec : Spec) (places : List (Option ℕ)) (n : ℕ) (entry : Entry) (place : Option ℕ) → IsKept spec
    → Turn spec.entries places n entry place → has_few_bits entry.object ≡ true
few_turn spec places n entry place kept t = object_few spec entry.object (kept_turn spec places n entry place kept t)

-- ---- sums

pub one_is : (entry : Entry) (place : Option ℕ) → bool_byte (is_some place) ≡ one_placed (entry, place)
one_is entry None = refl
one_is entry (Some first) = refl

pub one_small : (entry : Entry) (place : Option ℕ) → one_placed (entry, place) ≤ 1
one_small entry None = omega arith
one_small entry (Some first) = omega arith

need_small : (n : Need) → is_usual n ≡ true → 2 ^ bits_of n ≤ 1048576
need_small Nothing h = omega arith
need_small (DevicePage paddr) h = omega arith
need_small (Block bits) h = search (rules, nat_tests, pow_le)

pub bytes_small : (spec : Spec) (places : List (Option ℕ)) (n : ℕ) (entry : Entry) (place : Option ℕ) → IsKept spec
    → Turn spec.entries places n entry place → bytes_placed spec.arch (entry, place) ≤ 1048576
bytes_small spec places n entry None kept t = omega arith
bytes_small spec places n entry (Some first) kept t =
    need_small (need spec.arch entry.object) (object_usual spec entry.object (kept_turn spec places n entry (Some first) kept t))

pub sum_turn : (f : Entry × Option ℕ → ℕ) (entries : List Entry) (places : List (Option ℕ)) (n : ℕ) (entry : Entry)
    (place : Option ℕ) → Turn entries places n entry place
    → sum_by f (take (n + 1) (zip entries places)) ≡ sum_by f (take n (zip entries places)) + f (entry, place)
sum_turn f entries places n entry place t = sum_by_more f (zip entries places) n (entry, place) t.within
    ∙ ap (λ x. sum_by f (take n (zip entries places)) + f x) (sym t.is)

pub sum_turned : (f : Entry × Option ℕ → ℕ) (entries : List Entry) (places : List (Option ℕ)) (n total : ℕ)
    → n ≡ min (length entries) (length places) → total ≡ sum_by f (take n (zip entries places))
    → total ≡ sum_by f (zip entries places)
sum_turned f entries places n total h e = e ∙ ap (sum_by f) (take_all n (zip entries places) (turned entries places n h))
