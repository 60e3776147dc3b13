-- On gather
use Rattle.cam_base.proofs.Common.{IsIn, List, Some, [], add-one, ap, append_assoc, arith, before, flat_map, gather, get_or, inl, inr, length, map, refl, slice_get, slice_get-get_or, slice_get_read, suc, sym, take, zero, ℕ, ◌++◌, ◌+◌, ◌<◌}
use Rattle.cam_base.proofs.Common.{rules, ◌∙◌, ◌∷◌, ◌≡◌, ◌⊎◌}
use Rattle.std.proofs.Common.{append-nil}
use Rattle.std.proofs.lemmas.Grind.{flat_map-append}
pub use Rattle.std.proofs.lemmas.List.{length-append as length_append}

pub in_left : {X : Type 0} (x : X) (xs ys : List X) → IsIn x xs → IsIn x (xs ++ ys)
in_left x [] ys h = absurd h
in_left x (y ∷ xs) ys h = elim h [ inl e ↦ inl e | inr i ↦ inr (in_left x xs ys i) ]

pub in_right : {X : Type 0} (x : X) (xs ys : List X) → IsIn x ys → IsIn x (xs ++ ys)
in_right x [] ys h = h
in_right x (y ∷ xs) ys h = inr (in_right x xs ys h)

pub in_append : {X : Type 0} (x : X) (xs ys : List X) → IsIn x (xs ++ ys) → IsIn x xs ⊎ IsIn x ys
in_append x [] ys h = inr h
in_append x (y ∷ xs) ys h = elim h [
  | inl e ↦ inl (inl e)
  | inr i ↦ elim (in_append x xs ys i) [
    | inl j ↦ inl (inr j)
    | inr j ↦ inr j
  ]
]

-- where an element of a list stands
pub place_of : {X : Type 0} (x : X) (xs : List X) → IsIn x xs → (n : ℕ) × (slice_get xs n ≡ Some x)
place_of x [] i = absurd i
place_of x (y ∷ xs) (inl e) = (0, ap (λ z. Some z) e)
place_of x (y ∷ xs) (inr i) = let k : (n : ℕ) × (slice_get xs n ≡ Some x) = place_of x xs i in (suc k.0, k.1)

pub in_place : {X : Type 0} (x : X) (xs : List X) (n : ℕ) → slice_get xs n ≡ Some x → IsIn x xs
in_place x [] n e = cc
in_place x (y ∷ xs) zero e = inl (cc)
in_place x (y ∷ xs) (suc n) e = inr (in_place x xs n e)

-- what is gathered comes from an element at a place
pub from_gather : {X Y : Type 0} (f : ℕ → X → List Y) (y : Y) (xs : List X) → IsIn y (gather f xs)
    → (k : ℕ) × (x : X) × (slice_get xs k ≡ Some x) × IsIn y (f k x)
from_gather f y [] h = absurd h
from_gather {X} {Y} f y (x ∷ xs) h =
    elim (in_append y (f 0 x) (gather (λ k z. f (suc k) z) xs) h) [
      | inl i ↦ (0, x, refl, i)
      | inr i ↦ let k : (k : ℕ) × (z : X) × (slice_get xs k ≡ Some z) × IsIn y (f (suc k) z) =
          from_gather (λ k z. f (suc k) z) y xs i in (suc k.0, k.1, k.2, k.3)
    ]

pub in_gather : {X Y : Type 0} (f : ℕ → X → List Y) (y : Y) (xs : List X) (k : ℕ) (x : X) → slice_get xs k ≡ Some x
    → IsIn y (f k x) → IsIn y (gather f xs)
in_gather f y [] k x e i = cc
in_gather {X} f y (z ∷ xs) zero x e i = search (rules, in_left)
in_gather f y (z ∷ xs) (suc k) x e i = in_right y (f 0 z) (gather (λ k z. f (suc k) z) xs)
    (in_gather (λ k z. f (suc k) z) y xs k x e i)

-- a look-up behind a list, and in front of one
pub get_behind : {X : Type 0} (xs ys : List X) (n m : ℕ) → m ≡ length xs + n → slice_get (xs ++ ys) m ≡ slice_get ys n
get_behind [] ys n m e = let same : m ≡ n = omega arith in ap (λ z. slice_get ys z) same
get_behind (x ∷ xs) ys n zero e = absurd (omega arith)
get_behind (x ∷ xs) ys n (suc m) e = get_behind xs ys n m (omega arith)

pub get_front : {X : Type 0} (xs ys : List X) (n : ℕ) (x : X) → slice_get xs n ≡ Some x → slice_get (xs ++ ys) n ≡ Some x
get_front [] ys n x e = cc
get_front (y ∷ xs) ys zero x e = e
get_front (y ∷ xs) ys (suc n) x e = get_front xs ys n x e

-- THE law of numbering: thing j of the element at place k stands behind what comes from the elements before it
pub gathered : {X Y : Type 0} (f : ℕ → X → List Y) (xs : List X) (k : ℕ) (x : X) (j : ℕ) (y : Y) (m : ℕ) → slice_get xs k ≡ Some x
    → slice_get (f k x) j ≡ Some y → m ≡ before f xs k + j → slice_get (gather f xs) m ≡ Some y
gathered f [] k x j y m e i s = cc
gathered {X} {Y} f (z ∷ xs) zero x j y m e i s = grind (arith, get_front)
gathered {X} {Y} f (z ∷ xs) (suc k) x j y m e i s =
    let g : ℕ → X → List Y = λ k z. f (suc k) z in
    let long = length_append (f 0 z) (gather g (take k xs)) in
    get_behind (f 0 z) (gather g xs) (before g xs k + j) m (omega arith) ∙ gathered g xs k x j y (before g xs k + j) e i refl

-- a look-up in two lists is one in the first, or in the second
pub split_get : {X : Type 0} (xs ys : List X) (m : ℕ) (y : X) → slice_get (xs ++ ys) m ≡ Some y
    → (slice_get xs m ≡ Some y) ⊎ ((n : ℕ) × (m ≡ length xs + n) × (slice_get ys n ≡ Some y))
split_get [] ys m y h = inr (m, omega arith, h)
split_get (x ∷ xs) ys zero y h = inl h
split_get (x ∷ xs) ys (suc m) y h = elim (split_get xs ys m y h) [
  | inl there ↦ inl there
  | inr there ↦ let e = there.1 in inr (there.0, omega (arith, e), there.2)
]

-- what stands at a place was given by an element, and how far behind what comes from those before it
pub record Gathered {X Y : Type 0} (f : ℕ → X → List Y) (xs : List X) (m : ℕ) (y : Y) : Type 0 where
  pub place : ℕ
  pub item : X
  pub here : slice_get xs place ≡ Some item
  pub number : ℕ
  pub stands : slice_get (f place item) number ≡ Some y
  pub sum : m ≡ before f xs place + number

-- the converse of the law: each place has its element
pub from_place : {X Y : Type 0} (f : ℕ → X → List Y) (xs : List X) (m : ℕ) (y : Y) → slice_get (gather f xs) m ≡ Some y
    → Gathered f xs m y
from_place f [] m y h = absurd cc
from_place {X} {Y} f (x ∷ xs) m y h =
    let g : ℕ → X → List Y = λ k z. f (suc k) z in
    elim (split_get (f 0 x) (gather g xs) m y h) [
      | inl there ↦ record { place = 0; item = x; here = refl; number = m; stands = there; sum = omega arith }
      | inr there ↦
          let r : Gathered g xs there.0 y = from_place g xs there.0 y there.2 in
          let long = length_append (f 0 x) (gather g (take r.place xs)) in
          let e = there.1 in
          let s = r.sum in
          record {
            place = suc r.place;
            item = r.item;
            here = r.here;
            number = r.number;
            stands = r.stands;
            sum = omega (arith, long, e, s);
          }
    ]

-- the step of a loop that has gathered what comes from the first i elements
pub gather_more : {X Y : Type 0} (f : ℕ → X → List Y) (xs : List X) (i : ℕ) (x : X) → slice_get xs i ≡ Some x
    → gather f (take (suc i) xs) ≡ gather f (take i xs) ++ f i x
gather_more f [] i x e = cc
gather_more f (z ∷ xs) zero x e = let same : x ≡ z = cc in rw same (append-nil _)
gather_more f (z ∷ xs) (suc i) x e = ap (λ w. f 0 z ++ w) (gather_more (λ k z. f (suc k) z) xs i x e)
    ∙ sym (append_assoc (f 0 z) _ (f (suc i) x))

-- one thing from each element
pub gather_ones : {X Y : Type 0} (f : ℕ → X → Y) (xs : List X) → length (gather (λ k x. f k x ∷ []) xs) ≡ length xs
gather_ones f [] = refl
gather_ones f (x ∷ xs) = let ih = gather_ones (λ k z. f (suc k) z) xs in omega arith

pub get_ones : {X Y : Type 0} (f : ℕ → X → Y) (xs : List X) (k : ℕ) (x : X) → slice_get xs k ≡ Some x
    → slice_get (gather (λ k x. f k x ∷ []) xs) k ≡ Some (f k x)
get_ones f [] k x e = cc
get_ones f (z ∷ xs) zero x e = let same : x ≡ z = cc in ap (λ w. Some (f 0 w)) (sym same)
get_ones f (z ∷ xs) (suc k) x e = get_ones (λ k z. f (suc k) z) xs k x e

pub from_ones : {X Y : Type 0} (f : ℕ → X → Y) (xs : List X) (k : ℕ) (y : Y)
    → slice_get (gather (λ k x. f k x ∷ []) xs) k ≡ Some y → (x : X) × (slice_get xs k ≡ Some x) × (f k x ≡ y)
from_ones f [] k y e = cc
from_ones f (z ∷ xs) zero y e = (z, refl, cc)
from_ones f (z ∷ xs) (suc k) y e = from_ones (λ k z. f (suc k) z) xs k y e

-- THE turn of a loop that appends what each element gives. ys is the slice by which the loop reads xs
pub gather_turn : {X Y : Type 0} (f : ℕ → X → List Y) (xs ys : List X) (i : ℕ) (x : X) (old mid new : List Y) → ys ≡ xs
    → i < length ys → x ≡ get_or ys i x
    → mid ≡ old ++ gather f (take i xs) → new ≡ mid ++ f i x → new ≡ old ++ gather f (take (i + 1) xs)
gather_turn f xs ys i x old mid new same l is e g = search (rules, slice_get_read, append_assoc, add-one, gather_more)

pub gather_same : {X Y : Type 0} (f g : ℕ → X → List Y) (xs : List X) → ((k : ℕ) (x : X) → slice_get xs k ≡ Some x
    → f k x ≡ g k x) → gather f xs ≡ gather g xs
gather_same f g [] h = refl
gather_same f g (x ∷ xs) h = ap (λ z. z ++ gather (λ k y. f (suc k) y) xs) (h 0 x refl)
    ∙ ap (λ z. g 0 x ++ z) (gather_same (λ k y. f (suc k) y) (λ k y. g (suc k) y) xs (λ k y e. h (suc k) y e))

-- the element of a list of numbers that a loop has come to
pub listed_at : (xs : List ℕ) (i : ℕ) → i < length xs → IsIn (get_or xs i 0) xs
listed_at xs i l = in_place (get_or xs i 0) xs i (slice_get-get_or xs i 0 l)

-- one thing from each element, whatever its place
pub gather_map : {X Y : Type 0} (f : X → Y) (xs : List X) → gather (λ k x. f x ∷ []) xs ≡ map f xs
gather_map f [] = refl
gather_map f (x ∷ xs) = ap (λ z. f x ∷ z) (gather_map f xs)

-- several things from each thing that is gathered
pub flat_map-gather : {X Y Z : Type 0} (g : Y → List Z) (f : ℕ → X → List Y) (xs : List X)
    → flat_map g (gather f xs) ≡ gather (λ k x. flat_map g (f k x)) xs
flat_map-gather g f [] = refl
flat_map-gather g f (x ∷ xs) =
    flat_map-append g (f 0 x) (gather (λ k y. f (suc k) y) xs) ∙ ap (λ z. flat_map g (f 0 x) ++ z)
    (flat_map-gather g (λ k y. f (suc k) y) xs)
