-- The first fault of a list, and noting.
use Rattle.std.proofs.Common.{◌≡◌, ℕ, Bool, true, false, List, [], ◌∷◌, ◌++◌, Option, Some, None, refl, sym, ◌∙◌, ap, subst, arith, cond, nat_eq, nat_lt, inl, inr}
use Rattle.std.proofs.lemmas.Bool.Decides.{nat_tests}
use Rattle.cam_base.specs.Codes.{number_of}
use Rattle.cam_base.specs.declared.place.Fault.{Fault}
use Rattle.adl_meaning.specs.Faults.{precedes, earlier, least, noted}
use Rattle.cam_base.specs.Gather.{IsIn}

-- precedes, on numbers
abbrev pub lex : (a b c x y z : ℕ) → Bool
lex a b c x y z = cond (nat_eq a x) (cond (nat_eq b y) (nat_lt c z) (nat_lt b y)) (nat_lt a x)

lex_chain : (a b c x y z u v w : ℕ) → lex a b c x y z ≡ true → lex x y z u v w ≡ true → lex a b c u v w ≡ true
lex_chain a b c x y z u v w p q = grind (arith, nat_tests)

lex_back : (a b c x y z u v w : ℕ) → lex a b c x y z ≡ false → lex x y z u v w ≡ false → lex a b c u v w ≡ false
lex_back a b c x y z u v w p q = grind (arith, nat_tests)

pub lex_self : (a b c : ℕ) → lex a b c a b c ≡ false
lex_self a b c = grind (arith, nat_tests)

lex_one : (a b c x y z : ℕ) → lex a b c x y z ≡ true → lex x y z a b c ≡ false
lex_one a b c x y z p = grind (arith, nat_tests)

chain : (f g h : Fault) → precedes f g ≡ true → precedes g h ≡ true → precedes f h ≡ true
chain f g h = lex_chain f.place.file f.place.first (number_of f.code) g.place.file g.place.first (number_of g.code) h.place.file
    h.place.first (number_of h.code)

back : (f g h : Fault) → precedes f g ≡ false → precedes g h ≡ false → precedes f h ≡ false
back f g h = lex_back f.place.file f.place.first (number_of f.code) g.place.file g.place.first (number_of g.code) h.place.file
    h.place.first (number_of h.code)

itself : (f : Fault) → precedes f f ≡ false
itself f = lex_self f.place.file f.place.first (number_of f.code)

one_way : (f g : Fault) → precedes f g ≡ true → precedes g f ≡ false
one_way f g = lex_one f.place.file f.place.first (number_of f.code) g.place.file g.place.first (number_of g.code)

assoc_step : (f g h : Fault) (p q r : Bool) → precedes g f ≡ p → precedes h g ≡ q → precedes h f ≡ r
    → earlier (cond p (Some g) (Some f)) (Some h) ≡ earlier (Some f) (cond q (Some h) (Some g))
assoc_step f g h true true r a b c = ap (λ z. cond z (Some h) (Some g)) b
    ∙ sym (ap (λ z. cond z (Some h) (Some f)) (chain h g f b a))
assoc_step f g h true false r a b c = ap (λ z. cond z (Some h) (Some g)) b ∙ sym (ap (λ z. cond z (Some g) (Some f)) a)
assoc_step f g h false true r a b c = refl
assoc_step f g h false false r a b c = ap (λ z. cond z (Some h) (Some f)) (back h g f b a)
    ∙ sym (ap (λ z. cond z (Some g) (Some f)) a)

pub earlier_none : (a : Option Fault) → earlier a None ≡ a
earlier_none None = refl
earlier_none (Some f) = refl

pub earlier_assoc : (a b c : Option Fault) → earlier (earlier a b) c ≡ earlier a (earlier b c)
earlier_assoc None b c = refl
earlier_assoc (Some f) None None = refl
earlier_assoc (Some f) None (Some h) = refl
earlier_assoc (Some f) (Some g) None = earlier_none _
earlier_assoc (Some f) (Some g) (Some h) = assoc_step f g h (precedes g f) (precedes h g) (precedes h f) refl refl refl

-- what is noted one list after another
pub noted-append : (o : Option Fault) (xs ys : List Fault) → noted o (xs ++ ys) ≡ noted (noted o xs) ys
noted-append o [] ys = refl
noted-append o (f ∷ xs) ys = noted-append (earlier o (Some f)) xs ys

noted-earlier : (o : Option Fault) (fs : List Fault) → noted o fs ≡ earlier o (least fs)
noted-earlier o [] = sym (earlier_none o)
noted-earlier o (f ∷ fs) = noted-earlier (earlier o (Some f)) fs ∙ earlier_assoc o (Some f) (least fs)

pub noted-none : (fs : List Fault) → noted None fs ≡ least fs
noted-none fs = noted-earlier None fs

-- what the first fault of a list is
first_step : (f g : Fault) (fs : List Fault) (b : Bool) → precedes g f ≡ b → IsIn g fs
    → ((h : Fault) → IsIn h fs → precedes h g ≡ false) → (r : Fault) → cond b (Some g) (Some f) ≡ Some r
    → IsIn r (f ∷ fs) × ((h : Fault) → IsIn h (f ∷ fs) → precedes h r ≡ false)
first_step f g fs true e i m r q =
    let t : g ≡ r = cc in
    let P : Fault → Type 0 = λ x. IsIn x (f ∷ fs) × ((h : Fault) → IsIn h (f ∷ fs) → precedes h x ≡ false) in
    subst P t (inr i, λ h j. elim j [ inl s ↦ ap (λ z. precedes z g) (sym s) ∙ one_way g f e | inr s ↦ m h s ])
first_step f g fs false e i m r q =
    let t : f ≡ r = cc in
    let P : Fault → Type 0 = λ x. IsIn x (f ∷ fs) × ((h : Fault) → IsIn h (f ∷ fs) → precedes h x ≡ false) in
    subst P t (inl refl, λ h j. elim j [ inl s ↦ ap (λ z. precedes z f) (sym s) ∙ itself f | inr s ↦ back h g f (m h s) e ])

not_none : (f : Fault) (o : Option Fault) → earlier (Some f) o ≡ None → ⊥
not_none f None e = cc
not_none f (Some g) e = by_test (precedes g f) e
  where
    by_test : (b : Bool) → cond b (Some g) (Some f) ≡ None → ⊥
    by_test true e = cc
    by_test false e = cc

-- where there is no first fault, there is no fault
pub none_stands : (fs : List Fault) → least fs ≡ None → (f : Fault) → IsIn f fs → ⊥
none_stands [] e f i = i
none_stands (g ∷ fs) e f i = not_none g (least fs) e

first_go : (f : Fault) (fs : List Fault) (o : Option Fault) (r : Fault) → least fs ≡ o
    → ((g : Fault) → least fs ≡ Some g → IsIn g fs × ((h : Fault) → IsIn h fs → precedes h g ≡ false))
    → earlier (Some f) o ≡ Some r
    → IsIn r (f ∷ fs) × ((h : Fault) → IsIn h (f ∷ fs) → precedes h r ≡ false)
first_go f fs None r e ih q =
    let t : f ≡ r = cc in
    let P : Fault → Type 0 = λ x. IsIn x (f ∷ fs) × ((h : Fault) → IsIn h (f ∷ fs) → precedes h x ≡ false) in
    subst P t (
      inl refl,
      λ h j. elim j [
        | inl s ↦ ap (λ z. precedes z f) (sym s) ∙ itself f
        | inr s ↦
            absurd (none_stands fs e h s)
      ],
    )
first_go f fs (Some g) r e ih q = let k = ih g e in first_step f g fs (precedes g f) refl k.0 k.1 r q

-- the first fault is one of them, and none comes before it
pub first_of : (fs : List Fault) (r : Fault) → least fs ≡ Some r → IsIn r fs × ((h : Fault) → IsIn h fs → precedes h r ≡ false)
first_of [] r e = cc
first_of (f ∷ fs) r e = first_go f fs (least fs) r refl (λ g q. first_of fs g q) e

-- a list without a first fault is empty
pub least-empty : (fs : List Fault) → least fs ≡ None → fs ≡ []
least-empty [] e = refl
least-empty (f ∷ fs) e = absurd (not_none f (least fs) e)
