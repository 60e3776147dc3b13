-- Lists in order, made of others.
use Rattle.front_laws.proofs.Common.{InOrder, IsBefore, List, [], ap, append_assoc, from_flat_map, from_map, in_append, inl, inr, map, refl, rules, split_in, subst, sym, ◌++◌, ◌∙◌, ◌∷◌, ◌≡◌}
use Rattle.std.proofs.lemmas.List.{map-append}
use Rattle.std.specs.List.{flat_map}
use Rattle.cam_base.specs.Gather.{IsIn}

pub order_append : {X : Type 0} (R : X → X → Type 0) (xs ys : List X) → InOrder R xs → InOrder R ys
    → ((x y : X) → IsIn x xs → IsIn y ys → R x y) → InOrder R (xs ++ ys)
order_append R [] ys a b r = b
order_append R (x ∷ xs) ys a b r = (
  λ y i. elim (in_append y xs ys i) [ inl j ↦ a.0 y j | inr j ↦ r x y (inl refl) j ],
  order_append R xs ys a.1 b (λ u v i j. r u v (inr i) j),
)

pub order_map : {X Y : Type 0} (R : Y → Y → Type 0) (f : X → Y) (xs : List X) → InOrder (λ x y. R (f x) (f y)) xs
    → InOrder R (map f xs)
order_map R f [] a = tt
order_map {X} {Y} R f (x ∷ xs) a = (
  λ y i. let z = from_map f y xs i in let P : Y → Type 0 = λ u. R (f x) u in subst P z.2 (a.0 z.0 z.1),
  order_map R f xs a.1,
)

-- what is so of elements in order is so of what they are made into
pub order_weaken : {X : Type 0} (R S : X → X → Type 0) (xs : List X) → ((x y : X) → IsIn x xs → IsIn y xs → R x y → S x y)
    → InOrder R xs → InOrder S xs
order_weaken R S [] f a = tt
order_weaken R S (x ∷ xs) f a =
    (λ y i. f x y (inl refl) (inr i) (a.0 y i), order_weaken R S xs (λ u v i j. f u v (inr i) (inr j)) a.1)

pub order_flat_map : {X Y : Type 0} (R : Y → Y → Type 0) (f : X → List Y) (xs : List X) → ((x : X) → IsIn x xs → InOrder R (f x))
    → InOrder (λ x y. (u v : Y) → IsIn u (f x) → IsIn v (f y) → R u v) xs → InOrder R (flat_map f xs)
order_flat_map R f [] each a = tt
order_flat_map R f (x ∷ xs) each a =
    order_append R (f x) (flat_map f xs) (each x (inl refl)) (order_flat_map R f xs (λ y i. each y (inr i)) a.1)
    (λ u v i j. let y = from_flat_map f v xs j in a.0 y.0 y.1 u v i y.2)

-- each element stands before each behind it
before_from : {X : Type 0} (whole front xs : List X) → whole ≡ front ++ xs → InOrder (IsBefore whole) xs
before_from whole front [] e = tt
before_from {X} whole front (x ∷ xs) e = (
  λ y i. let s = split_in xs y i in record { front = front; between = s.0; rest = s.1; split = e ∙ ap (λ z. front ++ x ∷ z) s.2 },
  before_from whole (front ++ x ∷ []) xs (e ∙ sym (append_assoc front (x ∷ []) xs)),
)

pub all_before : {X : Type 0} (xs : List X) → InOrder (IsBefore xs) xs
all_before xs = before_from xs [] xs refl

pub before_map : {X Y : Type 0} (f : X → Y) (xs : List X) (a b : X) → IsBefore xs a b → IsBefore (map f xs) (f a) (f b)
before_map f xs a b s = search (rules, map-append)
