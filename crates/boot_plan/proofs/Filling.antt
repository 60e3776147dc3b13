-- Offsets of regions that are laid end to end, the greatest first.
use Rattle.boot_plan.proofs.Common.{Apart, Bool, Bytes, IsInOrder, IsPermutation, LieIn, LieInOne, List, Untyped, [], address, and_from, and_parts, ap, are_regions, arith, bytes_end, cases_lt, false, get_or, had, inl, inr, is_region, le-leb, leb}
use Rattle.boot_plan.proofs.Common.{leb-true, length, list_any, list_any-IsPermutation, nat_lt, nat_tests, not, not-true, or_right, rank, refl, region_end, room_bytes, subst, suc, sum_by-cons, sym, true, ℕ, ⊎_elim, ◌&&◌, ◌+◌, ◌-◌, ◌<◌, ◌^◌, ◌∙◌, ◌∷◌}
use Rattle.boot_plan.proofs.Common.{rules, ◌≡◌, ◌≤◌, ◌⊎◌}
use Rattle.boot_plan.proofs.Multiples.{Multiple, multiple_add, multiple_coarse, multiple_from, multiple_gap, multiple_one, multiple_sub, power_pos}
use Rattle.boot_plan.proofs.Solo.{Solo, solo_apart, solo_rest}
use Rattle.boot_plan.proofs.Usual.{region_parts}

-- 2^s bytes at an offset lie in one of the regions, at a multiple of their size
pub InRoom : List Untyped → ℕ → ℕ → Type 0
InRoom [] v s = ⊥
InRoom (r ∷ rs) v s = ((v + 2 ^ s ≤ room_bytes 0 r) × Multiple s (r.paddr + v))
    ⊎ ((room_bytes 0 r ≤ v) × InRoom rs (v - room_bytes 0 r) s)

-- ---- what a region has

device_room : (least : ℕ) (r : Untyped) → r.device ≡ true → room_bytes least r ≡ 0
device_room least r d = rw d refl

great_room : (least : ℕ) (r : Untyped) → r.device ≡ false → leb least r.bits ≡ true → room_bytes least r ≡ 2 ^ r.bits
great_room least r d l = rw (d, l) refl

small_room : (least : ℕ) (r : Untyped) → leb least r.bits ≡ false → r.device ≡ false → room_bytes least r ≡ 0
small_room least r l d = rw (d, l) refl

zero_below : (n : ℕ) → leb 0 n ≡ true
zero_below n = le-leb 0 n (omega arith)

-- regions behind a small one have no room for greater blocks
none_behind : (s k : ℕ) (rs : List Untyped) → are_regions rs ≡ true → 47 < s + k
    → ((j : ℕ) (d : Untyped) → j < length rs → k ≤ rank (get_or rs j d)) → had s rs ≡ 0
none_behind s k [] sound h order = refl
none_behind s k (r ∷ rs) sound h order =
    let p = and_parts (is_region r.paddr r.bits) (are_regions rs) sound in
    let ih = none_behind s k rs p.1 h (λ j d l. order (suc j) d (omega arith)) in
    let this : room_bytes s r ≡ 0 = head r.device refl (order 0 r (omega arith)) (region_parts r.paddr r.bits p.0).1 in
    omega (arith, ih, this, sum_by-cons (room_bytes s) r rs)
  where
    small : (n m : ℕ) → m < n → leb n m ≡ false
    small n m h = grind (arith, nat_tests)

    head : (d : Bool) → r.device ≡ d → k ≤ rank r → r.bits ≤ 47 → room_bytes s r ≡ 0
    head true d o b = device_room s r d
    head false d o b = grind (arith, small_room, small)

-- ---- blocks lie in one region

pub in_room : (rs : List Untyped) (v s : ℕ) → are_regions rs ≡ true → IsInOrder rs → Multiple s v → v + 2 ^ s ≤ had s rs
    → InRoom rs v s
unfolding InRoom
in_room [] v s sound order m h = let p = power_pos s in absurd (omega arith)
in_room (r ∷ rs) v s sound order m h =
    by_kind r.device refl (λ w n k. in_room rs w s (and_parts (is_region r.paddr r.bits) (are_regions rs) sound).1
    (λ i j d a b. order (suc i) (suc j) d (omega arith) (omega arith)) n k)
  where
    parts : (is_region r.paddr r.bits ≡ true) × (are_regions rs ≡ true)
    parts = let p = and_parts (is_region r.paddr r.bits) (are_regions rs) sound in (p.0, p.1)

    few : r.bits ≤ 47
    few = (region_parts r.paddr r.bits parts.0).1

    both : had s (r ∷ rs) ≡ room_bytes s r + had s rs
    both = sum_by-cons (room_bytes s) r rs

    big : (n : ℕ) → leb s n ≡ true → s ≤ n
    big n l = grind (arith, nat_tests)

    less : (n : ℕ) → leb s n ≡ false → n < s
    less n l = grind (arith, nat_tests)

    behind : (k : ℕ) → room_bytes 0 r ≡ k → room_bytes s r ≡ k → Multiple s k → k ≤ v
        → ((w : ℕ) → Multiple s w → w + 2 ^ s ≤ had s rs → InRoom rs w s)
        → ((v + 2 ^ s ≤ room_bytes 0 r) × Multiple s (r.paddr + v)) ⊎ ((room_bytes 0 r ≤ v) × InRoom rs (v - room_bytes 0 r) s)
    behind k e f n le ih = inr (omega (arith, e), rw e (ih (v - k) (multiple_sub s v k m n le) (omega (arith, f, both, h))))

    by_size : r.device ≡ false → (l : Bool) → leb s r.bits ≡ l → ((w : ℕ) → Multiple s w → w + 2 ^ s ≤ had s rs → InRoom rs w s)
        → ((v + 2 ^ s ≤ room_bytes 0 r) × Multiple s (r.paddr + v)) ⊎ ((room_bytes 0 r ≤ v) × InRoom rs (v - room_bytes 0 r) s)
    by_size d true l ih =
        let whole = great_room 0 r d (zero_below r.bits) in
        let n = multiple_coarse s r.bits (2 ^ r.bits) (big r.bits l) (multiple_one r.bits) in
        ⊎_elim
        (λ lt. let g = multiple_gap s v (2 ^ r.bits) m n lt in
        let paddr = multiple_coarse s r.bits r.paddr (big r.bits l)
        (multiple_from r.bits r.paddr (region_parts r.paddr r.bits parts.0).2) in
        inl (omega (arith, g, whole), multiple_add s r.paddr v paddr m))
        (λ ge. behind (2 ^ r.bits) whole (great_room s r d l) n ge ih)
        (cases_lt v (2 ^ r.bits))
    by_size d false l ih =
        let e : rank r ≡ 47 - r.bits = rw d refl in
        let lt = less r.bits l in
        let none = none_behind s (rank r) rs parts.1 (omega (arith, e, few, lt))
        (λ j d n. order 0 (suc j) d (omega arith) (omega arith)) in
        let this = small_room s r l d in
        let p = power_pos s in absurd (omega (arith, none, this, both, h))

    by_kind : (d : Bool) → r.device ≡ d → ((w : ℕ) → Multiple s w → w + 2 ^ s ≤ had s rs → InRoom rs w s)
        → ((v + 2 ^ s ≤ room_bytes 0 r) × Multiple s (r.paddr + v)) ⊎ ((room_bytes 0 r ≤ v) × InRoom rs (v - room_bytes 0 r) s)
    by_kind true d ih = behind 0 (device_room 0 r d) (device_room s r d) (record { times = 0; is = omega arith }) (omega arith) ih
    by_kind false d ih = by_size d (leb s r.bits) refl ih

-- ---- their addresses

first_address : (r : Untyped) (rs : List Untyped) (v : ℕ) → v < room_bytes 0 r → address (r ∷ rs) v ≡ r.paddr + v
first_address r rs v h = let t : nat_lt v (room_bytes 0 r) ≡ true = grind (arith, nat_tests) in rw t refl

later_address : (r : Untyped) (rs : List Untyped) (v : ℕ) → room_bytes 0 r ≤ v
    → address (r ∷ rs) v ≡ address rs (v - room_bytes 0 r)
later_address r rs v h = let t : nat_lt v (room_bytes 0 r) ≡ false = grind (arith, nat_tests) in rw t refl

-- a region that has room is no device's, and has 2^bits bytes
has_room : (r : Untyped) → 0 < room_bytes 0 r → (r.device ≡ false) × (room_bytes 0 r ≡ 2 ^ r.bits)
has_room r h = search (rules, device_room, great_room, zero_below)

unfoldable pub block : List Untyped → ℕ → ℕ → Bytes
block rs v s = record { first = address rs v; bits = s }

pub lies : (rs : List Untyped) (v s : ℕ) → InRoom rs v s → LieInOne false (block rs v s) rs
unfolding InRoom block
lies [] v s h = absurd h
lies (r ∷ rs) v s (inl (h, m)) = search (rules, power_pos, has_room, first_address)
lies (r ∷ rs) v s (inr (le, h)) =
    let at = later_address r rs v le in
    let P : ℕ → Type 0 = λ a. LieInOne false (record { first = a; bits = s }) rs in
    inr (subst P (sym at) (lies rs (v - room_bytes 0 r) s h))

pub aligned : (rs : List Untyped) (v s : ℕ) → InRoom rs v s → Multiple s (address rs v)
unfolding InRoom
aligned [] v s h = absurd h
aligned (r ∷ rs) v s (inl (h, m)) = let p = power_pos s in subst (Multiple s) (sym (first_address r rs v (omega (arith, p)))) m
aligned (r ∷ rs) v s (inr (le, h)) = subst (Multiple s) (sym (later_address r rs v le)) (aligned rs (v - room_bytes 0 r) s h)

-- ---- apart at offsets, apart at addresses

pub offsets_apart : (rs : List Untyped) (v s w t : ℕ) → Solo rs → v + 2 ^ s ≤ w → InRoom rs v s → InRoom rs w t
    → Apart (block rs v s) (block rs w t)
unfolding InRoom block
offsets_apart [] v s w t solo h a b = absurd a
offsets_apart (r ∷ rs) v s w t solo h (inl (a, m)) (inl (b, n)) = search (rules, power_pos, first_address)
offsets_apart (r ∷ rs) v s w t solo h (inl (a, m)) (inr (le, b)) =
    let p = power_pos s in
    let room = has_room r (omega (arith, p)) in
    let at = first_address r rs v (omega (arith, p)) in
    let to = later_address r rs w le in
    let lie : LieIn false (block (r ∷ rs) v s) r = search (rules) in
    let P : ℕ → Type 0 = λ k. LieInOne false (record { first = k; bits = t }) rs in
    let there : LieInOne false (block (r ∷ rs) w t) rs = subst P (sym to) (lies rs (w - room_bytes 0 r) t b) in
    solo_apart false false (block (r ∷ rs) v s) (block (r ∷ rs) w t) r rs solo lie there
offsets_apart (r ∷ rs) v s w t solo h (inr (le, a)) (inl (b, n)) = let p = power_pos t in absurd (omega (arith, p))
offsets_apart (r ∷ rs) v s w t solo h (inr (le, a)) (inr (lf, b)) =
    let at = later_address r rs v le in
    let to = later_address r rs w lf in
    let ih = offsets_apart rs (v - room_bytes 0 r) s (w - room_bytes 0 r) t (solo_rest r rs solo) (omega arith) a b in
    rw (at, to) ih

-- ---- regions in another order

test : Bytes → Untyped → Bool
test b r = not r.device && (leb r.paddr b.first && leb (bytes_end b) (region_end r))

lie_tested : (b : Bytes) (r : Untyped) → LieIn false b r → test b r ≡ true
unfolding test
lie_tested b r l = and_from (not r.device) _ (ap not l.kind) (and_from (leb r.paddr b.first) _ (le-leb r.paddr b.first l.low)
    (le-leb (bytes_end b) (region_end r) l.high))

tested_lie : (b : Bytes) (r : Untyped) → test b r ≡ true → LieIn false b r
unfolding test
tested_lie b r t = search (rules, and_parts, leb, not-true, leb-true)

any_from : (b : Bytes) (rs : List Untyped) → LieInOne false b rs → list_any (test b) rs ≡ true
any_from b [] l = absurd l
any_from b (r ∷ rs) (inl l) = rw (lie_tested b r l) refl
any_from b (r ∷ rs) (inr l) = or_right (test b r) (list_any (test b) rs) (any_from b rs l)

from_any : (b : Bytes) (rs : List Untyped) → list_any (test b) rs ≡ true → LieInOne false b rs
from_any b [] e = absurd cc
from_any b (r ∷ rs) e = go (test b r) refl (λ k. from_any b rs k)
  where
    go : (t : Bool) → test b r ≡ t → (list_any (test b) rs ≡ true → LieInOne false b rs) → LieInOne false b (r ∷ rs)
    go true t ih = inl (tested_lie b r t)
    go false t ih = inr (ih (rw t at e))

pub lie_permuted : (b : Bytes) (rs ss : List Untyped) → IsPermutation rs ss → LieInOne false b ss → LieInOne false b rs
lie_permuted b rs ss p l = from_any b rs (list_any-IsPermutation (test b) rs ss p ∙ any_from b ss l)
