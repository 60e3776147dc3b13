-- The slots of a CNode as a map by number: look-ups, a slot behind all others, a slot taken out.
use Rattle.cap_machine.proofs.Common.{AllByRecursion, Bool, Cap, Capability, Content, Less, List, [], and_parts, ap, arith, boot_slot, false, filter, get_or, insert_entry, is_eq, length, list_all, map, map_more, nat_cmp, nat_lt, not, refl, rise, suc}
use Rattle.cap_machine.proofs.Common.{sym, take, true, zero, ℕ, ◌++◌, ◌+◌, ◌<◌, ◌==◌, ◌∷◌, ◌≡◌, ◌≤◌}
use Rattle.std.specs.List.Sorted.{IsStrictlySortedBy}
use Rattle.std.specs.Map.{keys_of, remove_entry}
use Rattle.std.specs.BTreeMap.{is_at}
use Rattle.cam_base.proofs.Orders.{nat_cmp-greater}

test_same : (i n : ℕ) → is_eq (nat_cmp i n) ≡ (n == i)
test_same i n = grind arith

-- what stands at a greater number than all others comes last
pub insert_last : {X : Type 0} (es : List (ℕ × X)) (k : ℕ) (v : X) → AllByRecursion (λ n. n < k) (keys_of es)
    → insert_entry nat_cmp es k v ≡ es ++ (k, v) ∷ []
insert_last [] k v below = refl
insert_last (e ∷ es) k v below = rw (nat_cmp-greater k e.0 below.0) (ap (λ rest. e ∷ rest) (insert_last es k v below.1))

none_there : {X : Type 0} (es : List (ℕ × X)) (i n : ℕ) → n ≡ i → AllByRecursion (λ m. nat_cmp n m ≡ Less) (keys_of es)
    → filter (λ slot. not (slot.0 == i)) es ≡ es
none_there [] i n same above = refl
none_there (e ∷ es) i n same above =
    let here : (e.0 == i) ≡ false = (let a : nat_cmp n e.0 ≡ Less = above.0 in grind arith) in
    rw here (ap (λ rest. e ∷ rest) (none_there es i n same above.1))

-- where numbers rise, at most one slot has a number
pub remove-filter : {X : Type 0} (es : List (ℕ × X)) (i : ℕ) → IsStrictlySortedBy nat_cmp (keys_of es)
    → remove_entry (is_at (nat_cmp i)) es ≡ filter (λ slot. not (slot.0 == i)) es
unfolding IsStrictlySortedBy
remove-filter [] i rising = refl
remove-filter (e ∷ es) i rising = go (e.0 == i) refl (remove-filter es i rising.1) where
  go : (b : Bool) → (e.0 == i) ≡ b → remove_entry (is_at (nat_cmp i)) es ≡ filter (λ slot. not (slot.0 == i)) es
      → remove_entry (is_at (nat_cmp i)) (e ∷ es) ≡ filter (λ slot. not (slot.0 == i)) (e ∷ es)
  go true h rest = rw (test_same i e.0, h) (sym (none_there es i e.0 (grind arith) rising.0))
  go false h rest = rw (test_same i e.0, h) (ap (λ more. e ∷ more) rest)

pub below_more : (ns : List ℕ) (a b : ℕ) → a ≤ b → AllByRecursion (λ n. n < a) ns → AllByRecursion (λ n. n < b) ns
below_more [] a b le below = below
below_more (n ∷ ns) a b le below = (let h : n < a = below.0 in omega arith, below_more ns a b le below.1)

pub below_last : {X : Type 0} (es : List (ℕ × X)) (k : ℕ) (v : X) → AllByRecursion (λ n. n < k) (keys_of es)
    → AllByRecursion (λ n. n < k + 1) (keys_of (es ++ (k, v) ∷ []))
below_last [] k v below = (omega arith, tt)
below_last (e ∷ es) k v below = (let h : e.0 < k = below.0 in omega arith, below_last es k v below.1)

pub below_filter : {X : Type 0} (p : ℕ × X → Bool) (es : List (ℕ × X)) (k : ℕ) → AllByRecursion (λ n. n < k) (keys_of es)
    → AllByRecursion (λ n. n < k) (keys_of (filter p es))
below_filter p [] k below = below
below_filter p (e ∷ es) k below = go (p e) refl (below_filter p es k below.1) where
  go : (b : Bool) → p e ≡ b → AllByRecursion (λ n. n < k) (keys_of (filter p es))
      → AllByRecursion (λ n. n < k) (keys_of (filter p (e ∷ es)))
  go true h rest = rw h (below.0, rest)
  go false h rest = rw h rest

-- the slots of a spec

first_before : (x y : ℕ × Cap) (ys : List (ℕ × Cap)) → rise (x ∷ y ∷ ys) ≡ true → x.0 < y.0
first_before x y ys h = let a : nat_lt x.0 y.0 ≡ true = (and_parts (nat_lt x.0 y.0) (rise (y ∷ ys)) h).0 in grind arith

above : (a b : ℕ) (es : List (ℕ × Cap)) → a < b → AllByRecursion (λ n. b < n) (keys_of es)
    → AllByRecursion (λ n. a < n) (keys_of es)
above a b [] less all = tt
above a b (e ∷ es) less all = (let h : b < e.0 = all.0 in omega arith, above a b es less all.1)

before_rest : (x : ℕ × Cap) (ys : List (ℕ × Cap)) → rise (x ∷ ys) ≡ true → AllByRecursion (λ n. x.0 < n) (keys_of ys)
before_rest x [] h = tt
before_rest x (y ∷ ys) h = (
  first_before x y ys h,
  above x.0 y.0 ys (first_before x y ys h)
      (before_rest y ys (and_parts (nat_lt x.0 y.0) (rise (y ∷ ys)) h).1),
)

pub rest_rises : (x : ℕ × Cap) (ys : List (ℕ × Cap)) → rise (x ∷ ys) ≡ true → rise ys ≡ true
rest_rises x [] h = refl
rest_rises x (y ∷ ys) h = (and_parts (nat_lt x.0 y.0) (rise (y ∷ ys)) h).1

at_greater : (a : ℕ) (ys : List (ℕ × Cap)) (i : ℕ) (d : ℕ × Cap) → AllByRecursion (λ n. a < n) (keys_of ys) → i < length ys
    → a < (get_or ys i d).0
at_greater a [] i d all h = absurd (omega arith)
at_greater a (y ∷ ys) zero d all h = all.0
at_greater a (y ∷ ys) (suc i) d all h = at_greater a ys i d all.1 (omega arith)

-- the slots in front of a place have lesser numbers
pub front_below : (slots : List (ℕ × Cap)) (i : ℕ) (d : ℕ × Cap) → rise slots ≡ true → i < length slots
    → AllByRecursion (λ n. n < (get_or slots i d).0) (keys_of (map boot_slot (take i slots)))
front_below [] i d h l = absurd (omega arith)
front_below (x ∷ xs) zero d h l = tt
front_below (x ∷ xs) (suc i) d h l =
    (at_greater x.0 xs i d (before_rest x xs h) (omega arith), front_below xs i d (rest_rises x xs h) (omega arith))

-- one slot of a spec more
pub slots_more : (slots : List (ℕ × Cap)) (i : ℕ) (d : ℕ × Cap) (es new : List (ℕ × Content)) → rise slots ≡ true
    → i < length slots → es ≡ map boot_slot (take i slots)
    → new ≡ insert_entry nat_cmp es (get_or slots i d).0 (Capability (get_or slots i d).1)
    → new ≡ map boot_slot (take (i + 1) slots)
slots_more slots i d es new h l is made =
    rw (
      made,
      is,
      insert_last (map boot_slot (take i slots)) (get_or slots i d).0 (Capability (get_or slots i d).1)
          (front_below slots i d h l),
      map_more boot_slot slots i d l,
    ) refl

pub boot_below : (bound : ℕ) (slots : List (ℕ × Cap)) → list_all (λ slot. nat_lt slot.0 bound) slots ≡ true
    → AllByRecursion (λ n. n < bound) (keys_of (map boot_slot slots))
boot_below bound [] h = tt
boot_below bound (x ∷ xs) h =
    let both = and_parts (nat_lt x.0 bound) (list_all (λ (slot : ℕ × Cap). nat_lt slot.0 bound) xs) h in
    (let a : nat_lt x.0 bound ≡ true = both.0 in grind arith, boot_below bound xs both.1)
