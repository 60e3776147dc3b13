-- A placement has room: bytes that are apart and lie in regions are no more than those of the regions.
use Rattle.boot_plan.proofs.Common.{AllApart, AllByRecursion, AllSuit, Apart, Block, Bool, Bytes, DevicePage, HasRoom, LacksRoom, LieIn, LieInOne, List, Need, None, Nothing, Option, Placed, Some, Untyped, [], all_bytes, and_parts, arith}
use Rattle.boot_plan.proofs.Common.{block_bytes, bytes_end, cases_lt, cond, false, had, inl, inr, le-leb, leb, leb-true, length, nat_tests, needed, not, not-true, pow-suc, refl, region_end, room_bytes, suc, sum_by-cons, sym, true, zero, ℕ, ⊎_elim}
use Rattle.boot_plan.proofs.Common.{rules, ◌&&◌, ◌+◌, ◌<◌, ◌^◌, ◌∙◌, ◌∷◌, ◌≡◌, ◌≤◌}
use Rattle.boot_plan.proofs.Multiples.{power_pos}
use Rattle.boot_plan.proofs.Powers.{pow_le}

size : Bytes → ℕ
size b = 2 ^ b.bits

sizes : List Bytes → ℕ
sizes [] = 0
sizes (b ∷ bs) = 2 ^ b.bits + sizes bs

-- ---- those of a list that pass a test, and those that don't

put : Bool → Bytes → List Bytes → List Bytes
put true b bs = b ∷ bs
put false b bs = bs

sift : (Bytes → Bool) → List Bytes → List Bytes
sift p [] = []
sift p (b ∷ bs) = put (p b) b (sift p bs)

fewer : (p : Bytes → Bool) (bs : List Bytes) → length (sift p bs) ≤ length bs
unfolding sift put
fewer p [] = omega arith
fewer p (b ∷ bs) = go (p b) (fewer p bs)
  where
    go : (t : Bool) → length (sift p bs) ≤ length bs → length (put t b (sift p bs)) ≤ length (b ∷ bs)
    go true h = omega arith
    go false h = omega arith

both_sizes : (p : Bytes → Bool) (bs : List Bytes) → sizes (sift p bs) + sizes (sift (λ b. not (p b)) bs) ≡ sizes bs
unfolding sift sizes put
both_sizes p [] = refl
both_sizes p (b ∷ bs) = go (p b) (both_sizes p bs)
  where
    go : (t : Bool) → sizes (sift p bs) + sizes (sift (λ b. not (p b)) bs) ≡ sizes bs
        → sizes (put t b (sift p bs)) + sizes (put (not t) b (sift (λ b. not (p b)) bs)) ≡ 2 ^ b.bits + sizes bs
    go true h = omega arith
    go false h = omega arith

-- what holds of all, and of those that pass
sift_all : (P Q : Bytes → Type 0) (p : Bytes → Bool) (bs : List Bytes) → ((b : Bytes) → p b ≡ true → P b → Q b)
    → AllByRecursion P bs → AllByRecursion Q (sift p bs)
unfolding sift put
sift_all P Q p [] f h = tt
sift_all P Q p (b ∷ bs) f h = go (p b) refl (sift_all P Q p bs f h.1)
  where
    go : (t : Bool) → p b ≡ t → AllByRecursion Q (sift p bs) → AllByRecursion Q (put t b (sift p bs))
    go true e ih = (f b e h.0, ih)
    go false e ih = ih

sift_apart : (p : Bytes → Bool) (bs : List Bytes) → AllApart bs → AllApart (sift p bs)
unfolding sift put
sift_apart p [] h = tt
sift_apart p (b ∷ bs) h = go (p b) (sift_apart p bs h.1)
  where
    go : (t : Bool) → AllApart (sift p bs) → AllApart (put t b (sift p bs))
    go true ih = (sift_all (Apart b) (Apart b) p bs (λ c e k. k) h.0, ih)
    go false ih = ih

pub record Within (low high : ℕ) (b : Bytes) : Type 0 where
  pub low_end : low ≤ b.first
  pub high_end : bytes_end b ≤ high

zip_all : (P Q : Bytes → Type 0) (bs : List Bytes) → AllByRecursion P bs → AllByRecursion Q bs
    → AllByRecursion (λ b. P b × Q b) bs
zip_all P Q [] h k = tt
zip_all P Q (b ∷ bs) h k = ((h.0, k.0), zip_all P Q bs h.1 k.1)

not_le : (n m : ℕ) → not (leb n m) ≡ true → m < n
not_le n m h = grind (arith, nat_tests)

-- bytes that are apart within bounds are no more than stand between the bounds
inside : (most low high : ℕ) (bs : List Bytes) → length bs ≤ most → low ≤ high → AllByRecursion (Within low high) bs → AllApart bs
    → low + sizes bs ≤ high
unfolding sizes
inside most low high [] few le w apart = omega arith
inside zero low high (b ∷ bs) few le w apart = absurd (omega arith)
inside (suc most) low high (b ∷ bs) few le w apart =
    let in_front : Bytes → Bool = λ c. leb (bytes_end c) b.first in
    let all = zip_all (Within low high) (Apart b) bs w.1 apart.0 in
    let front = inside most low b.first (sift in_front bs) (let f = fewer in_front bs in omega arith) w.0.low_end
    (sift_all (λ c. Within low high c × Apart b c) (Within low b.first) in_front bs (λ c e k. record {
      low_end = k.0.low_end;
      high_end = leb-true (bytes_end c) b.first e;
    }) all) (sift_apart in_front bs apart.1) in
    let back = inside most (bytes_end b) high (sift (λ c. not (in_front c)) bs) (let f = fewer (λ c. not (in_front c)) bs in
    omega arith) w.0.high_end
    (sift_all (λ c. Within low high c × Apart b c) (Within (bytes_end b) high) (λ c. not (in_front c)) bs
    (λ c e k. record {
      low_end = ⊎_elim (λ h. h) (λ h. let n = not_le (bytes_end c) b.first e in absurd (omega (arith, n, h)))
          k.1;
      high_end = k.0.high_end;
    }) all) (sift_apart (λ c. not (in_front c)) bs apart.1) in
    let sum = both_sizes in_front bs in
    omega (arith, front, back, sum)

-- ---- all regions

lies_in : Untyped → Bytes → Bool
lies_in r b = not r.device && (leb r.paddr b.first && leb (bytes_end b) (region_end r))

lies_parts : (r : Untyped) (b : Bytes) → lies_in r b ≡ true → (r.device ≡ false) × (r.paddr ≤ b.first)
    × (bytes_end b ≤ region_end r)
unfolding lies_in
lies_parts r b e = search (rules, and_parts, leb, not-true, leb-true)

lies_told : (r : Untyped) (b : Bytes) → LieIn false b r → lies_in r b ≡ true
unfolding lies_in
lies_told r b l = search (rules, le-leb)

-- bytes of at least so many bits that lie in a region of its own kind
pub record GreatIn (least : ℕ) (rs : List Untyped) (b : Bytes) : Type 0 where
  pub great : least ≤ b.bits
  pub lies : LieInOne false b rs

below : (a b : ℕ) → 2 ^ a ≤ 2 ^ b → a ≤ b
below a b h = ⊎_elim (λ lt. let up = pow_le (suc b) a (omega arith) in let p = power_pos b in let e = pow-suc 2 b in
    absurd (omega (arith, up, p, e, h))) (λ ge. ge) (cases_lt b a)

room_for : (least : ℕ) (r : Untyped) (bs : List Bytes) → AllApart bs
    → AllByRecursion (λ b. (least ≤ b.bits) × (lies_in r b ≡ true)) bs → sizes bs ≤ room_bytes least r
unfolding sizes
room_for least r [] apart all = omega arith
room_for least r (b ∷ bs) apart all =
    let p = lies_parts r b all.0.1 in
    let few = below b.bits r.bits (omega (arith, p.1, p.2)) in
    let great : leb least r.bits ≡ true = le-leb least r.bits (omega (arith, few, all.0.0)) in
    let room : room_bytes least r ≡ 2 ^ r.bits = rw (p.0, great) refl in
    let h = inside (length (b ∷ bs)) r.paddr (region_end r) (b ∷ bs) (omega arith) (omega (arith, power_pos r.bits))
    (each (b ∷ bs) all) apart in
    omega (arith, h, room)
  where
    each : (cs : List Bytes) → AllByRecursion (λ b. (least ≤ b.bits) × (lies_in r b ≡ true)) cs
        → AllByRecursion (Within r.paddr (region_end r)) cs
    each [] h = tt
    each (c ∷ cs) h = let p = lies_parts r c h.0.1 in (record { low_end = p.1; high_end = p.2 }, each cs h.1)

-- bytes that are apart and lie in regions
in_regions : (least : ℕ) (rs : List Untyped) (bs : List Bytes) → AllApart bs → AllByRecursion (GreatIn least rs) bs
    → sizes bs ≤ had least rs
unfolding sizes
in_regions least [] [] apart all = omega arith
in_regions least [] (b ∷ bs) apart all = absurd all.0.lies
in_regions least (r ∷ rs) bs apart all =
    let here = room_for least r (sift (lies_in r) bs) (sift_apart (lies_in r) bs apart) (sift_all (GreatIn least (r ∷ rs))
    (λ b. (least ≤ b.bits) × (lies_in r b ≡ true)) (lies_in r) bs (λ b e k. (k.great, e)) all) in
    let there = in_regions least rs (sift (λ b. not (lies_in r b)) bs) (sift_apart (λ b. not (lies_in r b)) bs apart)
    (sift_all (GreatIn least (r ∷ rs)) (GreatIn least rs) (λ b. not (lies_in r b)) bs (λ b e k. record {
      great = k.great;
      lies = other b e k.lies;
    }) all) in
    let sum = both_sizes (lies_in r) bs in
    omega (arith, here, there, sum, sum_by-cons (room_bytes least) r rs)
  where
    other : (b : Bytes) → not (lies_in r b) ≡ true → LieInOne false b (r ∷ rs) → LieInOne false b rs
    other b e (inl l) = let t = lies_told r b l in let f = rw t at e in absurd cc
    other b e (inr l) = l

-- ---- the blocks of a placement

chosen : ℕ → List Need → List (Option ℕ) → List Bytes
chosen least (Block bits ∷ ns) (Some first ∷ places) = put (leb least bits) (record { first = first; bits = bits })
    (chosen least ns places)
chosen least (n ∷ ns) (place ∷ places) = chosen least ns places
chosen least (n ∷ ns) [] = []
chosen least [] places = []

chosen_all : (P : Bytes → Type 0) (least : ℕ) (ns : List Need) (places : List (Option ℕ)) → AllByRecursion P (all_bytes ns places)
    → AllByRecursion P (chosen least ns places)
unfolding chosen put
chosen_all P least [] places h = tt
chosen_all P least (Nothing ∷ ns) [] h = tt
chosen_all P least (DevicePage paddr ∷ ns) [] h = tt
chosen_all P least (Block bits ∷ ns) [] h = tt
chosen_all P least (Nothing ∷ ns) (None ∷ places) h = chosen_all P least ns places h
chosen_all P least (Nothing ∷ ns) (Some first ∷ places) h = chosen_all P least ns places h.1
chosen_all P least (DevicePage paddr ∷ ns) (None ∷ places) h = chosen_all P least ns places h
chosen_all P least (DevicePage paddr ∷ ns) (Some first ∷ places) h = chosen_all P least ns places h.1
chosen_all P least (Block bits ∷ ns) (None ∷ places) h = chosen_all P least ns places h
chosen_all P least (Block bits ∷ ns) (Some first ∷ places) h = go (leb least bits) (chosen_all P least ns places h.1)
  where
    go : (t : Bool) → AllByRecursion P (chosen least ns places)
        → AllByRecursion P (put t (record { first = first; bits = bits }) (chosen least ns places))
    go true ih = (h.0, ih)
    go false ih = ih

chosen_apart : (least : ℕ) (ns : List Need) (places : List (Option ℕ)) → AllApart (all_bytes ns places)
    → AllApart (chosen least ns places)
unfolding chosen put
chosen_apart least [] places h = tt
chosen_apart least (Nothing ∷ ns) [] h = tt
chosen_apart least (DevicePage paddr ∷ ns) [] h = tt
chosen_apart least (Block bits ∷ ns) [] h = tt
chosen_apart least (Nothing ∷ ns) (None ∷ places) h = chosen_apart least ns places h
chosen_apart least (Nothing ∷ ns) (Some first ∷ places) h = chosen_apart least ns places h.1
chosen_apart least (DevicePage paddr ∷ ns) (None ∷ places) h = chosen_apart least ns places h
chosen_apart least (DevicePage paddr ∷ ns) (Some first ∷ places) h = chosen_apart least ns places h.1
chosen_apart least (Block bits ∷ ns) (None ∷ places) h = chosen_apart least ns places h
chosen_apart least (Block bits ∷ ns) (Some first ∷ places) h = go (leb least bits) (chosen_apart least ns places h.1)
  where
    go : (t : Bool) → AllApart (chosen least ns places)
        → AllApart (put t (record { first = first; bits = bits }) (chosen least ns places))
    go true ih = (chosen_all (Apart (record { first = first; bits = bits })) least ns places h.0, ih)
    go false ih = ih

chosen_great : (least : ℕ) (rs : List Untyped) (ns : List Need) (places : List (Option ℕ)) → AllSuit rs ns places
    → AllByRecursion (GreatIn least rs) (chosen least ns places)
unfolding chosen put
chosen_great least rs [] places h = tt
chosen_great least rs (n ∷ ns) [] h = absurd h
chosen_great least rs (Nothing ∷ ns) (place ∷ places) h = chosen_great least rs ns places h.1
chosen_great least rs (DevicePage paddr ∷ ns) (place ∷ places) h = chosen_great least rs ns places h.1
chosen_great least rs (Block bits ∷ ns) (None ∷ places) h = absurd h.0
chosen_great least rs (Block bits ∷ ns) (Some first ∷ places) h = go (leb least bits) refl (chosen_great least rs ns places h.1)
  where
    go : (t : Bool) → leb least bits ≡ t → AllByRecursion (GreatIn least rs) (chosen least ns places)
        → AllByRecursion (GreatIn least rs) (put t (record { first = first; bits = bits }) (chosen least ns places))
    go true e ih = (record { great = leb-true least bits e; lies = h.0.1 }, ih)
    go false e ih = ih

chosen_sizes : (least : ℕ) (rs : List Untyped) (ns : List Need) (places : List (Option ℕ)) → AllSuit rs ns places
    → sizes (chosen least ns places) ≡ needed least ns
unfolding chosen sizes put
chosen_sizes least rs [] [] h = refl
chosen_sizes least rs [] (place ∷ places) h = absurd h
chosen_sizes least rs (n ∷ ns) [] h = absurd h
chosen_sizes least rs (Nothing ∷ ns) (place ∷ places) h = chosen_sizes least rs ns places h.1
    ∙ sym (sum_by-cons (block_bytes least) Nothing ns ∙ zero_more _)
  where
    zero_more : (n : ℕ) → 0 + n ≡ n
    zero_more n = omega arith
chosen_sizes least rs (DevicePage paddr ∷ ns) (place ∷ places) h = chosen_sizes least rs ns places h.1
    ∙ sym (sum_by-cons (block_bytes least) (DevicePage paddr) ns ∙ zero_more _)
  where
    zero_more : (n : ℕ) → 0 + n ≡ n
    zero_more n = omega arith
chosen_sizes least rs (Block bits ∷ ns) (None ∷ places) h = absurd h.0
chosen_sizes least rs (Block bits ∷ ns) (Some first ∷ places) h = go (leb least bits) (chosen_sizes least rs ns places h.1)
    ∙ sym (sum_by-cons (block_bytes least) (Block bits) ns)
  where
    go : (t : Bool) → sizes (chosen least ns places) ≡ needed least ns
        → sizes (put t (record { first = first; bits = bits }) (chosen least ns places)) ≡ cond t (2 ^ bits) 0 + needed least ns
    go true ih = omega (arith, ih)
    go false ih = omega (arith, ih)

-- where there is a placement, there is room
pub room_of : (ns : List Need) (rs : List Untyped) (places : List (Option ℕ)) → Placed ns rs places → HasRoom ns rs
room_of ns rs places p = λ least.
    let h = in_regions least rs (chosen least ns places) (chosen_apart least ns places p.apart)
    (chosen_great least rs ns places p.suit) in
    omega (arith, h, chosen_sizes least rs ns places p.suit)

pub none_where_lacking : (ns : List Need) (rs : List Untyped) (places : List (Option ℕ)) (bits need have : ℕ)
    → LacksRoom ns rs bits need have → Placed ns rs places → ⊥
none_where_lacking ns rs places bits need have l p = let r = room_of ns rs places p bits in
    omega (arith, r, l.needs, l.has, l.lacks)
