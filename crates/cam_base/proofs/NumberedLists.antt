-- What stands in a list, and what a list's elements are made into.
use Rattle.cam_base.proofs.Common.{All, Bool, IsIn, List, None, Option, Some, [], ap, arith, cond, cons_option, drop, enumerate_from, false, filter_map, find, flat_map, gather, get_or, get_or_from_slice_get, inl, inr, length, list_any, map}
use Rattle.cam_base.proofs.Common.{option_map, range_with_len, refl, slice_get, slice_get-get_or, slice_get_read, slice_get_within, subst, suc, sym, take, take_more, true, true≢false, zero, ℕ, ◌++◌, ◌+◌, ◌<◌, ◌||◌, ◌∙◌, ◌∷◌, ◌≡◌, ◌≤◌, ◌⊎◌}
use Rattle.cam_base.proofs.Gathered.{in_append, in_left, in_right, in_place, length_append}

pub in_map : {X A : Type 0} (f : X → A) (x : X) (xs : List X) → IsIn x xs → IsIn (f x) (map f xs)
in_map f x [] h = h
in_map f x (y ∷ xs) h = elim h [ inl e ↦ inl (ap f e) | inr i ↦ inr (in_map f x xs i) ]

pub from_map : {X A : Type 0} (f : X → A) (a : A) (xs : List X) → IsIn a (map f xs) → (x : X) × IsIn x xs × (f x ≡ a)
from_map f a [] h = absurd h
from_map f a (y ∷ xs) h = elim h [
  | inl e ↦ (y, inl refl, e)
  | inr i ↦ let k : (x : _) × IsIn x xs × (f x ≡ a) = from_map f a xs i in (k.0, inr k.1, k.2)
]

pub get_map : {X A : Type 0} (f : X → A) (xs : List X) (n : ℕ) (x : X) → slice_get xs n ≡ Some x
    → slice_get (map f xs) n ≡ Some (f x)
get_map f [] n x e = cc
get_map f (y ∷ xs) zero x e = let same : y ≡ x = cc in ap (λ z. Some (f z)) same
get_map f (y ∷ xs) (suc n) x e = get_map f xs n x e

-- each place below the length has an element
pub at_place : {X : Type 0} (xs : List X) (n : ℕ) → n < length xs → (x : X) × (slice_get xs n ≡ Some x)
at_place [] n l = absurd (omega (arith, l))
at_place (x ∷ xs) zero l = (x, refl)
at_place (x ∷ xs) (suc n) l = at_place xs n (omega (arith, l))

-- the element that a loop has come to, where it reads the list by a slice of it
pub read_place : {X : Type 0} (xs read : List X) (i : ℕ) (x : X) → read ≡ xs → i < length read → x ≡ get_or read i x
    → slice_get xs i ≡ Some x
read_place xs read i x same l is = subst (λ z. slice_get z i ≡ Some x) same (slice_get_read read (length read) i x refl l is)

pub read_in : {X : Type 0} (xs : List X) (i : ℕ) (d : X) → i < length xs → IsIn (get_or xs i d) xs
read_in xs i d l = in_place (get_or xs i d) xs i (slice_get-get_or xs i d l)

-- what comes from one thing for each element, where it doesn't depend on the place
pub map_ones : {X Y Z : Type 0} (f : Y → Z) (g : ℕ → X → Y) (h : X → Z) → ((j : ℕ) (x : X) → f (g j x) ≡ h x) → (xs : List X)
    → map f (gather (λ j x. g j x ∷ []) xs) ≡ map h xs
map_ones f g h e [] = refl
map_ones {X} {Y} {Z} f g h e (x ∷ xs) =
    let front : (a b : Z) (us vs : List Z) → a ≡ b → us ≡ vs → a ∷ us ≡ b ∷ vs = λ a b us vs p q. ap (λ z. z ∷ us) p
    ∙ ap (λ z. b ∷ z) q in
    front _ _ _ _ (e 0 x) (map_ones f (λ j y. g (suc j) y) h (λ j y. e (suc j) y) xs)

pub in_flat_map : {X Y : Type 0} (f : X → List Y) (x : X) (y : Y) (xs : List X) → IsIn x xs → IsIn y (f x)
    → IsIn y (flat_map f xs)
in_flat_map f x y [] i j = absurd i
in_flat_map {X} {Y} f x y (z ∷ xs) (inl e) j = let P : X → Type 0 = λ u. IsIn y (f u) in
    in_left y (f z) (flat_map f xs) (subst P (sym e) j)
in_flat_map f x y (z ∷ xs) (inr i) j = in_right y (f z) (flat_map f xs) (in_flat_map f x y xs i j)

pub from_flat_map : {X Y : Type 0} (f : X → List Y) (y : Y) (xs : List X) → IsIn y (flat_map f xs)
    → (x : X) × IsIn x xs × IsIn y (f x)
from_flat_map f y [] i = absurd i
from_flat_map f y (z ∷ xs) i = elim (in_append y (f z) (flat_map f xs) i) [
  | inl j ↦ (z, inl refl, j)
  | inr j ↦ let k = from_flat_map f y xs j in (k.0, inr k.1, k.2)
]

pub in_filter_map : {X Y : Type 0} (f : X → Option Y) (x : X) (y : Y) (xs : List X) → IsIn x xs → f x ≡ Some y
    → IsIn y (filter_map f xs)
in_filter_map f x y [] i e = absurd i
in_filter_map f x y (z ∷ xs) (inl s) e = front (f z) (ap f s ∙ e)
  where
    front : (o : Option _) → o ≡ Some y → IsIn y (cons_option o (filter_map f xs))
    front None t = cc
    front (Some u) t = inl (cc)
in_filter_map f x y (z ∷ xs) (inr i) e = behind (f z) (in_filter_map f x y xs i e)
  where
    behind : (o : Option _) → IsIn y (filter_map f xs) → IsIn y (cons_option o (filter_map f xs))
    behind None j = j
    behind (Some u) j = inr j

pub from_filter_map : {X Y : Type 0} (f : X → Option Y) (y : Y) (xs : List X) → IsIn y (filter_map f xs)
    → (x : X) × IsIn x xs × (f x ≡ Some y)
from_filter_map f y [] i = absurd i
from_filter_map {X} {Y} f y (z ∷ xs) i = by_case (f z) refl (from_filter_map f y xs) i
  where
    by_case : (o : Option Y) → f z ≡ o → (IsIn y (filter_map f xs) → (x : X) × IsIn x xs × (f x ≡ Some y))
        → IsIn y (cons_option o (filter_map f xs)) → (x : X) × IsIn x (z ∷ xs) × (f x ≡ Some y)
    by_case None e ih j = let k = ih j in (k.0, inr k.1, k.2)
    by_case (Some u) e ih (inl s) = (z, inl refl, e ∙ ap Some s)
    by_case (Some u) e ih (inr j) = let k = ih j in (k.0, inr k.1, k.2)

-- what is found is in the list, and passes
pub found : {X : Type 0} (p : X → Bool) (xs : List X) (x : X) → find p xs ≡ Some x → IsIn x xs × (p x ≡ true)
found p [] x e = cc
found {X} p (y ∷ xs) x e = by_test (p y) refl (found p xs x) e
  where
    by_test : (b : Bool) → p y ≡ b → (find p xs ≡ Some x → IsIn x xs × (p x ≡ true)) → cond b (Some y) (find p xs) ≡ Some x
        → IsIn x (y ∷ xs) × (p x ≡ true)
    by_test true t ih e = let s : y ≡ x = cc in (inl s, ap p (sym s) ∙ t)
    by_test false t ih e = let k = ih e in (inr k.0, k.1)

pub from_enumerate : {X : Type 0} (a : ℕ) (xs : List X) (x : ℕ × X) → IsIn x (enumerate_from a xs)
    → (j : ℕ) × (x.0 ≡ a + j) × (slice_get xs j ≡ Some x.1)
from_enumerate a [] x i = absurd i
from_enumerate {X} a (y ∷ xs) x (inl e) = (0, ap (λ (z : ℕ × X). z.0) (sym e) ∙ omega arith, ap (λ (z : ℕ × X). Some z.1) e)
from_enumerate a (y ∷ xs) x (inr i) = let k = from_enumerate (a + 1) xs x i in (suc k.0, k.1 ∙ omega arith, k.2)

pub in_enumerate : {X : Type 0} (a : ℕ) (xs : List X) (j : ℕ) (x : X) → slice_get xs j ≡ Some x
    → IsIn (a + j, x) (enumerate_from a xs)
in_enumerate a [] j x e = cc
in_enumerate {X} a (y ∷ xs) zero x e = let s : y ≡ x = cc in let t : a ≡ a + 0 = omega arith in
    inl (ap (λ z. (z, y)) t ∙ ap (λ z. (a + 0, z)) s)
in_enumerate {X} a (y ∷ xs) (suc j) x e =
    let t : (a + 1) + j ≡ a + suc j = omega arith in
    let P : ℕ → Type 0 = λ z. IsIn (z, x) (enumerate_from (a + 1) xs) in
    inr (subst P t (in_enumerate (a + 1) xs j x e))

-- where a list of lists is empty, each of them is
pub none_in : {X Y : Type 0} (f : X → List Y) (xs : List X) (x : X) → flat_map f xs ≡ [] → IsIn x xs → f x ≡ []
none_in {X} {Y} f xs x e i = by_case (f x) (λ y j. let P : List Y → Type 0 = λ ys. IsIn y ys in
    subst P e (in_flat_map f x y xs i j))
  where
    by_case : (ys : List Y) → ((y : Y) → IsIn y ys → IsIn y []) → ys ≡ []
    by_case [] h = refl
    by_case (y ∷ ys) h = absurd (h y (inl refl))

-- and where each of them is, the list of lists is
pub none_from : {X Y : Type 0} (f : X → List Y) (xs : List X) → ((x : X) → IsIn x xs → f x ≡ []) → flat_map f xs ≡ []
none_from f [] h = refl
none_from f (x ∷ xs) h = ap (λ ys. ys ++ flat_map f xs) (h x (inl refl)) ∙ none_from f xs (λ y i. h y (inr i))

-- a list in which nothing stands is empty
pub empty : {X : Type 0} (xs : List X) → ((x : X) → IsIn x xs → ⊥) → xs ≡ []
empty [] h = refl
empty (x ∷ xs) h = absurd (h x (inl refl))

-- functions that agree on what stands in a list
pub flat_map_same : {X Y : Type 0} (f g : X → List Y) (xs : List X) → ((x : X) → IsIn x xs → f x ≡ g x)
    → flat_map f xs ≡ flat_map g xs
flat_map_same f g [] h = refl
flat_map_same f g (x ∷ xs) h = ap (λ ys. ys ++ flat_map f xs) (h x (inl refl))
    ∙ ap (λ ys. g x ++ ys) (flat_map_same f g xs (λ y i. h y (inr i)))

-- what an index reads of a mapped list, or the default behind its end
pub get_or_map : {X Y : Type 0} (f : X → Y) (xs : List X) (k : ℕ) (d : Y)
    → ((x : X) × (slice_get xs k ≡ Some x) × (get_or (map f xs) k d ≡ f x)) ⊎ ((length xs ≤ k) × (get_or (map f xs) k d ≡ d))
get_or_map f [] k d = inr (omega arith, refl)
get_or_map f (x ∷ xs) zero d = inl (x, refl, refl)
get_or_map f (x ∷ xs) (suc k) d = elim (get_or_map f xs k d) [ inl p ↦ inl p | inr p ↦ inr (let l = p.0 in omega arith, p.1) ]

-- an element behind a list is what its default reads
pub get_or_last : {X Y : Type 0} (f : X → Y) (xs : List X) (x : X) (k : ℕ) (d : Y) → k ≤ length xs
    → get_or (map f (xs ++ x ∷ [])) k d ≡ f (get_or xs k x)
get_or_last f [] x zero d l = refl
get_or_last f [] x (suc k) d l = absurd (omega arith)
get_or_last f (y ∷ xs) x zero d l = refl
get_or_last f (y ∷ xs) x (suc k) d l = get_or_last f xs x k d (omega arith)

pub map_some : {X Y : Type 0} (f : X → Y) (o : Option X) (y : Y) → option_map f o ≡ Some y → (x : X) × (o ≡ Some x) × (f x ≡ y)
map_some f None y e = cc
map_some f (Some x) y e = (x, refl, cc)

pub none_left : {X : Type 0} (xs ys : List X) → xs ++ ys ≡ [] → xs ≡ []
none_left [] ys e = refl
none_left (x ∷ xs) ys e = cc

pub none_right : {X : Type 0} (xs ys : List X) → xs ++ ys ≡ [] → ys ≡ []
none_right [] ys e = e
none_right (x ∷ xs) ys e = cc

pub below : {X : Type 0} (xs : List X) (k : ℕ) (x : X) → slice_get xs k ≡ Some x → k < length xs
below [] k x e = cc
below (y ∷ xs) zero x e = omega arith
below (y ∷ xs) (suc k) x e = let ih = below xs k x e in omega (arith, ih)

pub single : {X : Type 0} (x y : X) (i : ℕ) → slice_get (x ∷ []) i ≡ Some y → (i ≡ 0) × (x ≡ y)
single x y zero e = (refl, cc)
single x y (suc i) e = cc

-- ---- ranges

pub in_range : (a n i : ℕ) → i < n → IsIn (a + i) (range_with_len a n)
in_range a zero i l = absurd (omega (arith, l))
in_range a (suc n) zero l = inl (omega arith)
in_range a (suc n) (suc i) l =
    let e : a + 1 + i ≡ a + suc i = omega arith in
    let P : ℕ → Type 0 = λ z. IsIn z (range_with_len (a + 1) n) in inr (subst P e (in_range (a + 1) n i (omega (arith, l))))

pub from_range : (a n i : ℕ) → IsIn i (range_with_len a n) → i < a + n
from_range a zero i h = absurd h
from_range a (suc n) i (inl e) = omega (arith, e)
from_range a (suc n) i (inr h) = let l = from_range (a + 1) n i h in omega (arith, l)

-- ---- lists that begin with another

pub get_drop : {X : Type 0} (xs : List X) (p j : ℕ) → slice_get (drop p xs) j ≡ slice_get xs (p + j)
get_drop xs zero j = let e : j ≡ 0 + j = omega arith in ap (λ z. slice_get xs z) e
get_drop [] (suc p) j = refl
get_drop (x ∷ xs) (suc p) j =
    let e : suc (p + j) ≡ suc p + j = omega arith in get_drop xs p j ∙ ap (λ z. slice_get (x ∷ xs) z) e

pub begins_with : {X : Type 0} (xs ts : List X) → ((j : ℕ) (y : X) → slice_get ts j ≡ Some y → slice_get xs j ≡ Some y)
    → xs ≡ ts ++ drop (length ts) xs
begins_with xs [] h = refl
begins_with [] (y ∷ ts) h = let e = h 0 y refl in cc
begins_with {X} (x ∷ xs) (y ∷ ts) h =
    let e = h 0 y refl in
    let same : x ≡ y = cc in
    ap (λ z. z ∷ xs) same ∙ ap (λ zs. y ∷ zs) (begins_with xs ts (λ j z f. h (suc j) z f))

-- ---- how long lists are

-- what comes from the first elements is no more than what comes from all
pub taken_le : {X Y : Type 0} (F : ℕ → X → List Y) (xs : List X) (i : ℕ) → length (gather F (take i xs)) ≤ length (gather F xs)
taken_le F [] zero = omega arith
taken_le F [] (suc i) = omega arith
taken_le F (x ∷ xs) zero = omega arith
taken_le F (x ∷ xs) (suc i) =
    let G : ℕ → _ → List _ = λ k y. F (suc k) y in
    omega (arith, taken_le G xs i, length_append (F 0 x) (gather G (take i xs)), length_append (F 0 x) (gather G xs))

pub from_any : {X : Type 0} (p : X → Bool) (xs : List X) → list_any p xs ≡ true → (x : X) × IsIn x xs × (p x ≡ true)
from_any p [] h = absurd (true≢false (sym h))
from_any {X} p (x ∷ xs) h = go (p x) refl (from_any p xs) h where
  go : (b : Bool) → p x ≡ b → (list_any p xs ≡ true → (y : X) × IsIn y xs × (p y ≡ true)) → b || list_any p xs ≡ true
      → (y : X) × IsIn y (x ∷ xs) × (p y ≡ true)
  go true e rest h = (x, inl refl, e)
  go false e rest h = let r = rest h in (r.0, inr r.1, r.2)

pub from_get_map : {X A : Type 0} (f : X → A) (xs : List X) (k : ℕ) (a : A) → slice_get (map f xs) k ≡ Some a
    → (x : X) × (slice_get xs k ≡ Some x) × (f x ≡ a)
from_get_map f [] k a e = cc
from_get_map f (x ∷ xs) zero a e = (x, refl, cc)
from_get_map f (x ∷ xs) (suc k) a e = from_get_map f xs k a e

-- around an element that is there
pub split_in : {X : Type 0} (xs : List X) (x : X) → IsIn x xs → (before after : List X) × (xs ≡ before ++ x ∷ after)
split_in [] x i = absurd i
split_in (y ∷ xs) x (inl same) = ([], xs, ap (λ z. z ∷ xs) same)
split_in (y ∷ xs) x (inr i) = let s = split_in xs x i in (y ∷ s.0, s.1, ap (λ z. y ∷ z) s.2)

-- at most one of each element
pub length-gather : {X Y : Type 0} (f : ℕ → X → List Y) (xs : List X) → ((k : ℕ) (x : X) → length (f k x) ≤ 1)
    → length (gather f xs) ≤ length xs
length-gather f [] h = omega arith
length-gather f (x ∷ xs) h =
    let a = h 0 x in
    let b = length-gather (λ k y. f (suc k) y) xs (λ k y. h (suc k) y) in
    let c = length_append (f 0 x) (gather (λ k y. f (suc k) y) xs) in
    omega (arith, a, b, c)

pub all_in : {X : Type 0} (P : X → Type 0) (xs : List X) (x : X) → All P xs → IsIn x xs → P x
all_in P [] x h i = absurd i
all_in P (y ∷ xs) x h (inl e) = subst P e (h 0 y (omega arith))
all_in P (y ∷ xs) x h (inr i) = all_in P xs x (λ k d l. h (suc k) d (omega arith)) i

pub below_count : (n i : ℕ) → IsIn i (range_with_len 0 n) → i < n
below_count n i h = let l = from_range 0 n i h in omega (arith, l)

-- what a list begins with, one more of it
pub taken_more : {X : Type 0} (xs : List X) (n : ℕ) (x : X) → slice_get xs n ≡ Some x → take (n + 1) xs ≡ take n xs ++ x ∷ []
taken_more xs n x h = take_more xs n x (slice_get_within xs n x h)
    ∙ ap (λ z. take n xs ++ z ∷ []) (get_or_from_slice_get xs n x x h)

pub in_any : {X : Type 0} (p : X → Bool) (xs : List X) (x : X) → IsIn x xs → p x ≡ true → list_any p xs ≡ true
in_any p [] x i e = absurd i
in_any p (y ∷ xs) x (inl s) e = ap (λ b. b || list_any p xs) (ap p s ∙ e)
in_any p (y ∷ xs) x (inr i) e = go (p y) (in_any p xs x i e) where
  go : (b : Bool) → list_any p xs ≡ true → (b || list_any p xs) ≡ true
  go true h = refl
  go false h = h

pub somes_one : {X : Type 0} (xs ys : List X) → map (λ x. Some x) xs ≡ map (λ x. Some x) ys → xs ≡ ys
somes_one [] [] e = refl
somes_one [] (y ∷ ys) e = absurd cc
somes_one (x ∷ xs) [] e = absurd cc
somes_one {X} (x ∷ xs) (y ∷ ys) e =
    let head : x ≡ y = cc in
    let tail : map (λ (z : X). Some z) xs ≡ map (λ z. Some z) ys = cc in
    ap (λ z. z ∷ xs) head ∙ ap (λ z. y ∷ z) (somes_one xs ys tail)
