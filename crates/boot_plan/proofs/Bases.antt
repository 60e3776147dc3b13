-- The offsets at which regions begin.
use Rattle.boot_plan.proofs.Common.{AreBases, Bool, HasOffset, IsNonDecreasing, IsPartitionPoint, IsPermutation, List, Untyped, [], address, ap, are_regions, arith, cases_lt, false, get_or, get_or_append_left, get_or_default, get_or_push, had}
use Rattle.boot_plan.proofs.Common.{is_region, le-ltb, leb, length, length_push, list_all, list_any, list_any-IsPermutation, lt-ltb, nat_lt, nat_tests, not, refl, room_bytes, slice_index, subst, suc, sum_by, sum_by-IsPermutation, sum_by-cons}
use Rattle.boot_plan.proofs.Common.{rules, sum_by_more, sym, take, take_all, true, zero, ℕ, ⊎_elim, ◌&&◌, ◌++◌, ◌+◌, ◌-◌, ◌<◌, ◌^◌, ◌∙◌, ◌∷◌, ◌≡◌, ◌≤◌}
use Rattle.boot_plan.proofs.Usual.{region_got, region_parts}

all_any : {A : Type 0} (p : A → Bool) (xs : List A) → list_all p xs ≡ not (list_any (λ x. not (p x)) xs)
all_any p [] = refl
all_any p (x ∷ xs) = go (p x) refl (all_any p xs)
  where
    go : (b : Bool) → p x ≡ b → list_all p xs ≡ not (list_any (λ y. not (p y)) xs)
        → list_all p (x ∷ xs) ≡ not (list_any (λ y. not (p y)) (x ∷ xs))
    go true h ih = rw h ih
    go false h ih = rw h refl

pub all_permuted : {A : Type 0} (p : A → Bool) (xs ys : List A) → IsPermutation xs ys → list_all p xs ≡ true
    → list_all p ys ≡ true
all_permuted p xs ys h all = all_any p ys ∙ ap not (sym (list_any-IsPermutation (λ x. not (p x)) xs ys h))
    ∙ sym (all_any p xs) ∙ all

pub regions_permuted : (rs ss : List Untyped) → IsPermutation rs ss → are_regions rs ≡ true → are_regions ss ≡ true
regions_permuted rs ss h all = all_permuted (λ (r : Untyped). is_region r.paddr r.bits) rs ss h all

-- the region with an offset
pub address_at : (rs : List Untyped) (i : ℕ) (d : Untyped) (offset : ℕ) → i < length rs → had 0 (take i rs) ≤ offset
    → offset < had 0 (take i rs) + room_bytes 0 (get_or rs i d)
    → address rs offset ≡ (get_or rs i d).paddr + (offset - had 0 (take i rs))
address_at [] i d offset l low high = absurd (omega arith)
address_at (r ∷ rs) zero d offset l low high = search (rules, nat_lt, lt-ltb)
address_at (r ∷ rs) (suc i) d offset l low high =
    let more : had 0 (take (suc i) (r ∷ rs)) ≡ room_bytes 0 r + had 0 (take i rs) = sum_by-cons (room_bytes 0) r (take i rs) in
    let t : nat_lt offset (room_bytes 0 r) ≡ false = le-ltb offset (room_bytes 0 r) (omega (arith, more)) in
    let ih = address_at rs i d (offset - room_bytes 0 r) (omega arith) (omega (arith, more)) (omega (arith, more)) in
    let e : (offset - room_bytes 0 r) - had 0 (take i rs) ≡ offset - (room_bytes 0 r + had 0 (take i rs)) = omega arith in
    rw (t, more) (ih ∙ ap (λ k. (get_or rs i d).paddr + k) e)

pub record Found (rs : List Untyped) (bases : List ℕ) (offset p : ℕ) : Type 0 where
  pub some : 0 < p
  pub has : HasOffset rs bases offset (p - 1)

pub found : (rs : List Untyped) (bases : List ℕ) (offset p : ℕ) → AreBases rs bases → offset < had 0 rs → p ≤ length bases
    → IsPartitionPoint (λ b. leb b offset ≡ true) (λ b. leb b offset ≡ false) bases p → Found rs bases offset p
found rs bases offset zero b h l point =
    let some : 0 < length rs = nonempty rs h in
    let first = point.1 0 0 (omega arith) (omega (arith, b.count, some)) in
    let at = b.each 0 some in
    absurd (not_less (slice_index bases 0) first (omega (arith, at)))
  where
    nonempty : (rs : List Untyped) → offset < had 0 rs → 0 < length rs
    nonempty [] h = absurd (omega arith)
    nonempty (r ∷ rs) h = omega arith

    not_less : (n : ℕ) → leb n offset ≡ false → n ≡ 0 → ⊥
    not_less n t e = grind (arith, nat_tests)
found rs bases offset (suc p) b h l point =
    let base = b.each p (omega (arith, b.count)) in
    let before = point.0 p 0 (omega arith) (omega arith) in
    let low : slice_index bases p ≤ offset = le (slice_index bases p) before in
    let high : offset < had 0 (take (p + 1) rs) = ⊎_elim
    (λ lt. let at = b.each (p + 1) (omega (arith, b.count)) in let after = point.1 (p + 1) 0 (omega arith) (omega arith) in
    lt_of (slice_index bases (p + 1)) (had 0 (take (p + 1) rs)) after at)
    (λ ge. subst (λ k. offset < had 0 k) (sym (take_all (p + 1) rs (omega (arith, b.count)))) h)
    (cases_lt (p + 1) (length bases)) in
    let one : suc p - 1 ≡ p = omega arith in
    let top : (d : Untyped) → offset < slice_index bases p + room_bytes 0 (get_or rs p d) = λ d. let more =
    sum_by_more (room_bytes 0) rs p d (omega (arith, b.count)) in omega (arith, more, high, base) in
    let has : HasOffset rs bases offset p = record {
      within = omega (arith, b.count);
      low = low;
      high = top;
      is = λ d. address_at rs p d offset (omega (arith, b.count)) (omega (arith, base, low)) (omega (arith, top d, base))
          ∙ ap (λ k. (get_or rs p d).paddr + (offset - k)) (sym base);
    } in
    record { some = omega arith; has = subst (HasOffset rs bases offset) (sym one) has }
  where
    le : (n : ℕ) → leb n offset ≡ true → n ≤ offset
    le n t = grind (arith, nat_tests)

    lt_of : (n m : ℕ) → leb n offset ≡ false → n ≡ m → offset < m
    lt_of n m t e = grind (arith, nat_tests)

-- a base more
pub record BasesTo (rs : List Untyped) (i base : ℕ) (bases : List ℕ) : Type 0 where
  pub so_far : base ≡ had 0 (take i rs)
  pub count : length bases ≡ i
  pub each : (k : ℕ) → k < i → slice_index bases k ≡ had 0 (take k rs)

pub base_more : (rs : List Untyped) (i base more : ℕ) (bases new : List ℕ) (d : Untyped) → i < length rs
    → base ≡ had 0 (take i rs) → length bases ≡ i → ((k : ℕ) → k < i → slice_index bases k ≡ had 0 (take k rs))
    → more ≡ room_bytes 0 (get_or rs i d) → new ≡ bases ++ base ∷ [] → BasesTo rs (i + 1) (base + more) new
base_more rs i base more bases new d l so_far count each is pushed =
    search (rules, sum_by_more, length_push, get_or_append_left, get_or_push, cases_lt)

count_all : (rs : List Untyped) → sum_by (λ _. 1) rs ≡ length rs
count_all [] = refl
count_all (r ∷ rs) = let ih = count_all rs in omega (arith, ih, sum_by-cons (λ _. 1) r rs)

pub length_permuted : (rs ss : List Untyped) (most : ℕ) → IsPermutation rs ss → length rs ≤ most → length ss ≤ most
length_permuted rs ss most h l = omega (arith, sum_by-IsPermutation (λ _. 1) rs ss h, count_all rs, count_all ss, l)

had_take_less : (rs : List Untyped) (i j : ℕ) → i ≤ j → had 0 (take i rs) ≤ had 0 (take j rs)
had_take_less rs zero j h = omega arith
had_take_less [] (suc i) j h = omega arith
had_take_less (r ∷ rs) (suc i) zero h = absurd (omega arith)
had_take_less (r ∷ rs) (suc i) (suc j) h =
    let ih = had_take_less rs i j (omega arith) in
    let a : had 0 (take (suc i) (r ∷ rs)) ≡ room_bytes 0 r + had 0 (take i rs) = sum_by-cons (room_bytes 0) r (take i rs) in
    let b : had 0 (take (suc j) (r ∷ rs)) ≡ room_bytes 0 r + had 0 (take j rs) = sum_by-cons (room_bytes 0) r (take j rs) in
    omega (arith, ih, a, b)

-- bases rise
pub rising : (rs : List Untyped) (bases : List ℕ) → AreBases rs bases → IsNonDecreasing bases
rising rs bases b = search (rules, get_or_default, had_take_less)

-- a room ends within 48 bits
pub room_end : (r : Untyped) → is_region r.paddr r.bits ≡ true → r.paddr + room_bytes 0 r ≤ 2 ^ 48
room_end r h = search (rules, region_parts, leb)

-- the base and the region that are read for an offset
pub base_read : (rs : List Untyped) (bases : List ℕ) (offset k b : ℕ) → AreBases rs bases → HasOffset rs bases offset k
    → b ≡ get_or bases k b → b ≡ slice_index bases k
base_read rs bases offset k b a h e = e ∙ get_or_default bases k b 0 (omega (arith, h.within, a.count))

pub base_low : (rs : List Untyped) (bases : List ℕ) (offset k b : ℕ) → AreBases rs bases → HasOffset rs bases offset k
    → b ≡ get_or bases k b → b ≤ offset
base_low rs bases offset k b a h e = omega (arith, base_read rs bases offset k b a h e, h.low)

pub address_small : (rs : List Untyped) (bases : List ℕ) (offset k b : ℕ) (r : Untyped) → AreBases rs bases
    → are_regions rs ≡ true → HasOffset rs bases offset k → b ≡ get_or bases k b → r ≡ get_or rs k r
    → r.paddr + (offset - b) < 2 ^ 64
address_small rs bases offset k b r a sound h e is =
    let base = base_read rs bases offset k b a h e in
    let end = room_end (get_or rs k r) (region_got rs k r sound h.within) in
    let same = ap (λ (q : Untyped). q.paddr) is in
    omega (arith, base, h.low, h.high r, end, same)

pub address_read : (rs : List Untyped) (bases : List ℕ) (offset k b : ℕ) (r : Untyped) → AreBases rs bases
    → HasOffset rs bases offset k → b ≡ get_or bases k b → r ≡ get_or rs k r → r.paddr + (offset - b) ≡ address rs offset
address_read rs bases offset k b r a h e is = ap (λ n. r.paddr + (offset - n)) (base_read rs bases offset k b a h e)
    ∙ ap (λ (q : Untyped). q.paddr + (offset - slice_index bases k)) is ∙ sym (h.is r)
