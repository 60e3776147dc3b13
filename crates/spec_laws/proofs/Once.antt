-- Lists in which nothing stands twice
use Rattle.spec_laws.proofs.Common.{IsIn, List, Some, [], arith, flat_map, from_flat_map, from_gather, gather, in_place, inl, inr, place_of, refl, slice_get, split_get, subst, suc, sym, zero, ℕ, ◌++◌, ◌∷◌, ◌≡◌, Bool, cond, true, false}

abbrev pub Once : {X : Type 0} → List X → Type 0
Once {X} xs = (i j : ℕ) (x : X) → slice_get xs i ≡ Some x → slice_get xs j ≡ Some x → i ≡ j

pub once_append : {X : Type 0} (xs ys : List X) → Once xs → Once ys → ((x : X) → IsIn x xs → IsIn x ys → ⊥) → Once (xs ++ ys)
once_append xs ys a b no_both i j x e f = elim (split_get xs ys i x e) [
  | inl p ↦ elim (split_get xs ys j x f) [
    | inl q ↦ a i j x p q
    | inr q ↦ absurd (no_both x (in_place x xs i p) (in_place x ys q.0 q.2))
  ]
  | inr p ↦ elim (split_get xs ys j x f) [
    | inl q ↦ absurd (no_both x (in_place x xs j q) (in_place x ys p.0 p.2))
    | inr q ↦
        let n = q.1 in omega (arith, b p.0 q.0 x p.2 q.2, p.1, n)
  ]
]

pub once_none : {X : Type 0} → Once {X = X} []
once_none i j x e f = cc

pub once_one : {X : Type 0} (y : X) → Once (y ∷ [])
once_one y zero zero x e f = refl
once_one y _ _ x e f = cc

pub once_if : {X : Type 0} (b : Bool) (y : X) → Once (cond b (y ∷ []) [])
once_if true y = once_one y
once_if false y = once_none

pub once_gather : {X Y : Type 0} (f : ℕ → X → List Y) (xs : List X) → ((k : ℕ) (x : X) → slice_get xs k ≡ Some x → Once (f k x))
    → ((k l : ℕ) (x z : X) (y : Y) → IsIn y (f k x) → IsIn y (f l z) → k ≡ l) → Once (gather f xs)
once_gather f [] a b = once_none
once_gather {X} {Y} f (x ∷ xs) a b =
    let g : ℕ → X → List Y = λ k z. f (suc k) z in
    let next : (k l : ℕ) (p q : X) (y : Y) → IsIn y (g k p) → IsIn y (g l q) → k ≡ l = λ k l p q y i j. let s =
    b (suc k) (suc l) p q y i j in omega (arith, s) in
    once_append (f 0 x) (gather g xs) (a 0 x refl) (once_gather g xs (λ k z e. a (suc k) z e) next)
    (λ y i j. let k = from_gather g y xs j in let s = b 0 (suc k.0) x k.1 y i k.3 in absurd (omega (arith, s)))

-- the first of a list in which nothing stands twice doesn't stand behind
not_behind : {X : Type 0} (x : X) (xs : List X) → Once (x ∷ xs) → IsIn x xs → ⊥
not_behind x xs o i = let n = place_of x xs i in let s = o 0 (suc n.0) x refl n.1 in absurd (omega (arith, s))

once_rest : {X : Type 0} (x : X) (xs : List X) → Once (x ∷ xs) → Once xs
once_rest x xs o i j z e f = let s = o (suc i) (suc j) z e f in omega (arith, s)

pub once_flat : {X Y : Type 0} (f : X → List Y) (xs : List X) → Once xs → ((x : X) → IsIn x xs → Once (f x))
    → ((x z : X) (y : Y) → IsIn y (f x) → IsIn y (f z) → x ≡ z) → Once (flat_map f xs)
once_flat f [] o a b = once_none
once_flat {X} f (x ∷ xs) o a b =
    let P : X → Type 0 = λ z. IsIn z xs in
    once_append (f x) (flat_map f xs) (a x (inl refl)) (once_flat f xs (once_rest x xs o) (λ z i. a z (inr i)) b)
    (λ y i j. let k = from_flat_map f y xs j in not_behind x xs o (subst P (sym (b x k.0 y i k.2)) k.1))

pub once_cons : {X : Type 0} (x : X) (xs : List X) → Once xs → (IsIn x xs → ⊥) → Once (x ∷ xs)
once_cons {X} x xs o n = once_append (x ∷ []) xs (once_one x) o (λ z i j. elim i [
  | inl e ↦ let P : X → Type 0 = λ w. IsIn w xs in n (subst P (sym e) j)
  | inr k ↦ absurd k
])
