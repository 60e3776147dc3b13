-- What lists are made of, where std has no such law.
use Rattle.cam_base.proofs.Common.{Bool, List, None, Option, Some, [], add-one, and_from, ap, arith, cond, cons_option, drop, false, filter_map, find, flat_map, get_or, length, length-append, list_all, list_any, map, option_or, position_from, refl}
use Rattle.cam_base.proofs.Common.{rules, slice_get, subst, suc, sym, take, true, zero, ℕ, ◌++◌, ◌+◌, ◌-◌, ◌<◌, ◌||◌, ◌∙◌, ◌∷◌, ◌≡◌, ◌≤◌}
use Rattle.std.proofs.Math.Seq.{drop-cons}

pub nil_append : {A : Type 0} (xs ys : List A) → xs ++ ys ≡ [] → (xs ≡ []) × (ys ≡ [])
nil_append [] ys e = (refl, e)
nil_append (x ∷ xs) ys e = absurd cc

pub cond_nil : {A : Type 0} (b : Bool) (x : A) → cond b [] (x ∷ []) ≡ [] → b ≡ true
cond_nil true x e = refl
cond_nil false x e = absurd cc

pub flat_map_nil : {X A : Type 0} (f : X → List A) (xs : List X) (i : ℕ) (x : X) → flat_map f xs ≡ []
    → slice_get xs i ≡ Some x → f x ≡ []
flat_map_nil f [] i x e g = absurd cc
flat_map_nil f (y ∷ xs) zero x e g = let p = nil_append (f y) (flat_map f xs) e in let s : y ≡ x = cc in rw (← s) p.0
flat_map_nil f (y ∷ xs) (suc i) x e g = flat_map_nil f xs i x (nil_append (f y) (flat_map f xs) e).1 g

-- lists that end alike
pub snoc_same : {A : Type 0} (xs ys : List A) (x y : A) → xs ++ x ∷ [] ≡ ys ++ y ∷ [] → (xs ≡ ys) × (x ≡ y)
snoc_same [] [] x y e = (refl, cc)
snoc_same [] (b ∷ []) x y e = absurd (cc)
snoc_same [] (b ∷ c ∷ ys) x y e = absurd (cc)
snoc_same (a ∷ []) [] x y e = absurd (cc)
snoc_same (a ∷ c ∷ xs) [] x y e = absurd (cc)
snoc_same (a ∷ xs) (b ∷ ys) x y e =
    let head : a ≡ b = cc in
    let tail : xs ++ x ∷ [] ≡ ys ++ y ∷ [] = cc in
    let p = snoc_same xs ys x y tail in
    (ap (λ h. h ∷ xs) head ∙ ap (λ l. b ∷ l) p.0, p.1)

-- the element that a loop reads, in front of the rest
pub drop_first : {X : Type 0} (xs : List X) (i : ℕ) (x : X) → i < length xs → x ≡ get_or xs i x → drop i xs ≡ x ∷ drop (i + 1) xs
drop_first xs i x l e = drop-cons xs i x l ∙ ap (λ z. z ∷ drop (suc i) xs) (sym e) ∙ ap (λ j. x ∷ drop j xs) (sym (add-one i))

-- what is read of a list with one more element
pub get_or-last : (xs : List ℕ) (v j : ℕ) → j ≡ length xs → get_or (xs ++ v ∷ []) j 0 ≡ v
get_or-last [] v zero e = refl
get_or-last [] v (suc j) e = absurd (omega (arith, e))
get_or-last (x ∷ xs) v zero e = absurd (omega (arith, e))
get_or-last (x ∷ xs) v (suc j) e = get_or-last xs v j (omega (arith, e))

pub get_or-before_last : (xs : List ℕ) (v j : ℕ) → j < length xs → get_or (xs ++ v ∷ []) j 0 ≡ get_or xs j 0
get_or-before_last [] v j l = absurd (omega (arith, l))
get_or-before_last (x ∷ xs) v zero l = refl
get_or-before_last (x ∷ xs) v (suc j) l = get_or-before_last xs v j (omega (arith, l))

pub take-front : (a rest : List ℕ) → take (length (a ++ rest) - length rest) (a ++ rest) ≡ a
take-front a rest = rw (let e : length (a ++ rest) - length rest ≡ length a = omega (arith, length-append a rest) in e) (front a)
  where
    front : (a : List ℕ) → take (length a) (a ++ rest) ≡ a
    front [] = refl
    front (x ∷ a) = ap (λ (w : List ℕ). x ∷ w) (front a)

pub longer_front : (a b c d : List ℕ) → a ++ c ≡ b ++ d → length c ≤ length d → (e : List ℕ) × (a ≡ b ++ e) × (d ≡ e ++ c)
longer_front a [] c d p le = (a, refl, sym p)
longer_front [] (x ∷ b) c d p le = absurd (let k = ap length p in omega (arith, length-append b d))
longer_front (y ∷ a) (x ∷ b) c d p le =
    let q : a ++ c ≡ b ++ d = cc in
    let e : y ≡ x = cc in
    let r = longer_front a b c d q le in
    (r.0, ap (λ (w : List ℕ). y ∷ w) r.1 ∙ ap (λ (z : ℕ). z ∷ (b ++ r.0)) e, r.2)

pub list_any-map : {X Y : Type 0} (p : Y → Bool) (f : X → Y) (xs : List X) → list_any p (map f xs) ≡ list_any (λ x. p (f x)) xs
list_any-map p f [] = refl
list_any-map p f (x ∷ xs) = ap (λ b. p (f x) || b) (list_any-map p f xs)

pub find_passes : {X : Type 0} (t : X → Bool) (xs : List X) (x : X) → find t xs ≡ Some x → t x ≡ true
find_passes t [] x e = absurd cc
find_passes {X} t (y ∷ xs) x e = by_test (t y) refl (find_passes t xs x) e
  where
    by_test : (b : Bool) → t y ≡ b → (find t xs ≡ Some x → t x ≡ true) → cond b (Some y) (find t xs) ≡ Some x → t x ≡ true
    by_test true h rest e = let s : y ≡ x = cc in subst (λ z. t z ≡ true) s h
    by_test false h rest e = rest e

pub position_from-snoc : {X : Type 0} (is : X → Bool) (a : ℕ) (xs : List X) (x : X)
    → position_from is a (xs ++ x ∷ []) ≡ option_or (position_from is a xs) (cond (is x) (Some (a + length xs)) None)
position_from-snoc is a [] x = by_test (is x)
  where
    by_test : (b : Bool) → cond b (Some a) None ≡ option_or None (cond b (Some (a + 0)) None)
    by_test true = let e : a ≡ a + 0 = omega arith in ap Some e
    by_test false = refl
position_from-snoc is a (y ∷ xs) x = by_test (is y) (position_from-snoc is (a + 1) xs x)
  where
    by_test : (b : Bool) → position_from is (a + 1) (xs ++ x ∷ []) ≡ option_or (position_from is (a + 1) xs)
        (cond (is x) (Some ((a + 1) + length xs)) None)
        → cond b (Some a) (position_from is (a + 1) (xs ++ x ∷ [])) ≡ option_or (cond b (Some a) (position_from is (a + 1) xs))
        (cond (is x) (Some (a + suc (length xs))) None)
    by_test true ih = refl
    by_test false ih = let e : (a + 1) + length xs ≡ a + suc (length xs) = omega arith in
        ih ∙ ap (λ k. option_or (position_from is (a + 1) xs) (cond (is x) (Some k) None)) e

pub length-filter_map : {X Y : Type 0} (f : X → Option Y) (xs : List X) → length (filter_map f xs) ≤ length xs
length-filter_map f [] = omega arith
length-filter_map {Y = Y} f (x ∷ xs) = by_case (f x) (length-filter_map f xs)
  where
    by_case : (o : Option Y) → length (filter_map f xs) ≤ length xs → length (cons_option o (filter_map f xs)) ≤ suc (length xs)
    by_case None h = omega arith
    by_case (Some y) h = omega arith

-- the places of what `filter_map` keeps, and the places where it stands in what is made
pub from_filter_map : {A B : Type 0} (f : A → Option B) (xs : List A) (k : ℕ) (y : B) → slice_get (filter_map f xs) k ≡ Some y
    → (i : ℕ) × (x : A) × (slice_get xs i ≡ Some x) × (f x ≡ Some y)
from_filter_map f [] k y h = absurd cc
from_filter_map {A} {B} f (x ∷ xs) k y h = go (f x) refl h (λ j g. from_filter_map f xs j y g) where
  go : (o : Option B) → f x ≡ o → slice_get (filter_map f (x ∷ xs)) k ≡ Some y
      → ((j : ℕ) → slice_get (filter_map f xs) j ≡ Some y → (i : ℕ) × (z : A) × (slice_get xs i ≡ Some z) × (f z ≡ Some y))
      → (i : ℕ) × (z : A) × (slice_get (x ∷ xs) i ≡ Some z) × (f z ≡ Some y)
  go None is there rest =
      let same : filter_map f (x ∷ xs) ≡ filter_map f xs = rw is refl in
      let r = rest k (subst (λ (ys : List B). slice_get ys k ≡ Some y) same there) in
      (suc r.0, r.1, r.2, r.3)
  go (Some z) is there rest =
      let same : filter_map f (x ∷ xs) ≡ z ∷ filter_map f xs = rw is refl in
      at_place k (subst (λ (ys : List B). slice_get ys k ≡ Some y) same there) where
        at_place : (j : ℕ) → slice_get (z ∷ filter_map f xs) j ≡ Some y → (i : ℕ) × (w : A) × (slice_get (x ∷ xs) i ≡ Some w)
            × (f w ≡ Some y)
        at_place zero g = (zero, x, refl, is ∙ g)
        at_place (suc j) g = let r = rest j g in (suc r.0, r.1, r.2, r.3)

pub to_filter_map : {A B : Type 0} (f : A → Option B) (xs : List A) (i : ℕ) (x : A) (y : B) → slice_get xs i ≡ Some x
    → f x ≡ Some y → (k : ℕ) × (slice_get (filter_map f xs) k ≡ Some y)
to_filter_map f [] i x y h is = absurd cc
to_filter_map {A} {B} f (z ∷ xs) zero x y h is = search (rules)
to_filter_map {A} {B} f (z ∷ xs) (suc i) x y h is = go (f z) refl (to_filter_map f xs i x y h is) where
  go : (o : Option B) → f z ≡ o → (k : ℕ) × (slice_get (filter_map f xs) k ≡ Some y)
      → (k : ℕ) × (slice_get (filter_map f (z ∷ xs)) k ≡ Some y)
  go None here r = (r.0, rw here r.1)
  go (Some w) here r = (suc r.0, rw here r.1)

pub list_all-places : {X : Type 0} (p : X → Bool) (xs : List X) → ((n : ℕ) (x : X) → slice_get xs n ≡ Some x → p x ≡ true)
    → list_all p xs ≡ true
list_all-places p [] h = refl
list_all-places p (x ∷ xs) h = and_from (p x) (list_all p xs) (h 0 x refl) (list_all-places p xs (λ n y e. h (suc n) y e))
