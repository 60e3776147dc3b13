-- What needs and regions keep: how large they are.
use Rattle.boot_plan.proofs.Common.{Block, Bool, CNode, DevicePage, Endpoint, Entry, Frame, Irq, List, Need, None, Nothing, Notification, Object, Pages, Some, Spec, Thread, Untyped, [], and_from, and_parts, are_regions, are_usual, arith, block_bytes}
use Rattle.boot_plan.proofs.Common.{cond, eqb-true, false, get_or, if_any, is_region, is_usual, keeps, keeps_fill, leb, leb-true, length, list_all, map, nat_lt, nat_tests, need, needed, needs, not, refl, room_bytes, suc}
use Rattle.boot_plan.proofs.Common.{rules, sum_by-cons, true, zero, ℕ, ◌%◌, ◌&&◌, ◌+◌, ◌<◌, ◌==◌, ◌^◌, ◌∷◌, ◌≡◌, ◌≤◌}
use Rattle.boot_plan.proofs.Powers.{pow_le}

-- what all pass, the one at a place passes
pub all_got : {A : Type 0} (p : A → Bool) (xs : List A) (i : ℕ) (d : A) → list_all p xs ≡ true → i < length xs
    → p (get_or xs i d) ≡ true
all_got p [] i d all l = absurd (omega arith)
all_got p (x ∷ xs) zero d all l = (and_parts (p x) (list_all p xs) all).0
all_got p (x ∷ xs) (suc i) d all l = all_got p xs i d (and_parts (p x) (list_all p xs) all).1 (omega arith)

pub usual_got : (ns : List Need) (i : ℕ) (d : Need) → are_usual ns ≡ true → i < length ns → is_usual (get_or ns i d) ≡ true
usual_got ns i d all l = all_got is_usual ns i d all l

pub region_got : (rs : List Untyped) (i : ℕ) (d : Untyped) → are_regions rs ≡ true → i < length rs
    → is_region (get_or rs i d).paddr (get_or rs i d).bits ≡ true
region_got rs i d all l = all_got (λ (r : Untyped). is_region r.paddr r.bits) rs i d all l

cond_le : (b : Bool) (n m : ℕ) → n ≤ m → cond b n 0 ≤ m
cond_le true n m h = h
cond_le false n m h = omega arith

-- the parts of a region's test
pub region_parts : (paddr bits : ℕ) → is_region paddr bits ≡ true → (4 ≤ bits) × (bits ≤ 47) × (paddr % 2 ^ bits ≡ 0)
    × (paddr + 2 ^ bits ≤ 2 ^ 48)
region_parts paddr bits h = search (rules, and_parts, leb, leb-true, eqb-true)

pub block_small : (least : ℕ) (n : Need) → is_usual n ≡ true → block_bytes least n ≤ 1048576
block_small least Nothing h = omega arith
block_small least (DevicePage paddr) h = omega arith
block_small least (Block bits) h = search (rules, nat_tests, pow_le, cond_le, leb)

pub room_small : (least : ℕ) (r : Untyped) → is_region r.paddr r.bits ≡ true → room_bytes least r ≤ 2 ^ 47
room_small least r h = search (rules, region_parts, pow_le, cond_le, leb)

pub bits_few : (paddr bits : ℕ) → is_region paddr bits ≡ true → bits ≤ 47
bits_few paddr bits h = (region_parts paddr bits h).1

pub ruleset usual = (usual_got, region_got, block_small, room_small, bits_few)

-- what the objects of a spec need is usual
pub object_usual : (spec : Spec) (object : Object) → keeps spec object ≡ true → is_usual (need spec.arch object) ≡ true
object_usual spec Endpoint h = refl
object_usual spec Notification h = refl
object_usual spec (CNode bits slots) h = search (rules, and_parts, nat_lt, leb, nat_tests)
object_usual spec (Thread tcb) h = refl
object_usual spec (Frame None fill) h = refl
object_usual spec (Frame (Some paddr) fill) h = (and_parts (paddr % 4096 == 0) (if_any keeps_fill fill) h).0
object_usual spec (Pages level slots) h = search (rules, leb)
object_usual spec (Irq notification) h = refl

pub needs_usual : (spec : Spec) → list_all (λ (entry : Entry). keeps spec entry.object) spec.entries ≡ true
    → are_usual (needs spec) ≡ true
needs_usual spec h = go spec.entries h
  where
    go : (entries : List Entry) → list_all (λ (entry : Entry). keeps spec entry.object) entries ≡ true
        → are_usual (map (λ (entry : Entry). need spec.arch entry.object) entries) ≡ true
    go [] h = refl
    go (entry ∷ entries) h =
        let p = and_parts (keeps spec entry.object) (list_all (λ (e : Entry). keeps spec e.object) entries) h in
        and_from (is_usual (need spec.arch entry.object)) _ (object_usual spec entry.object p.0) (go entries p.1)

-- what an element that isn't there is read as
abbrev pub nowhere : Untyped
nowhere = record { paddr = 0; bits = 0; device = false }

-- no block has more than 20 bits
pub none_needed : (least : ℕ) (ns : List Need) → are_usual ns ≡ true → 20 < least → needed least ns ≡ 0
none_needed least [] all h = refl
none_needed least (n ∷ ns) all h =
    let p = and_parts (is_usual n) (are_usual ns) all in
    let ih = none_needed least ns p.1 h in
    let none = one_none n p.0 in
    omega (arith, ih, none, sum_by-cons (block_bytes least) n ns)
  where
    one_none : (n : Need) → is_usual n ≡ true → block_bytes least n ≡ 0
    one_none Nothing u = refl
    one_none (DevicePage paddr) u = refl
    one_none (Block bits) u = let t : leb least bits ≡ false = grind (arith, nat_tests) in rw t refl
