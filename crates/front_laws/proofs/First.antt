-- The first thing that is said of the elements of a list, each by those in front of it.
use Rattle.front_laws.proofs.Common.{List, None, Option, Some, [], ap, append-nil, append_assoc, option_or, refl, rules, sym, ◌++◌, ◌∙◌, ◌∷◌, ◌≡◌}

abbrev pub first_of : {X F : Type 0} → (List X → X → Option F) → List X → List X → Option F
first_of g before [] = None
first_of g before (x ∷ xs) = option_or (g before x) (first_of g (before ++ x ∷ []) xs)

-- nothing is said of the elements, behind these
abbrev pub IsClean : {X F : Type 0} → (List X → X → Option F) → List X → List X → Type 0
IsClean {X} g before xs = (p q : List X) (y : X) → xs ≡ p ++ y ∷ q → g (before ++ p) y ≡ None

pub record First {X F : Type 0} (g : List X → X → Option F) (before xs : List X) (f : F) : Type 0 where
  pub front : List X
  pub item : X
  pub rest : List X
  pub split : xs ≡ front ++ item ∷ rest
  pub says : g (before ++ front) item ≡ Some f
  pub clean : IsClean g before front

clean_more : {X F : Type 0} (g : List X → X → Option F) (before : List X) (x : X) (xs : List X) → g before x ≡ None
    → IsClean g (before ++ x ∷ []) xs → IsClean g before (x ∷ xs)
clean_more {X} g before x xs none clean [] q y e = search (rules, append-nil)
clean_more {X} g before x xs none clean (z ∷ p) q y e = search (rules, append_assoc)

clean_head : {X F : Type 0} (g : List X → X → Option F) (before : List X) (x : X) (xs : List X) → IsClean g before (x ∷ xs)
    → g before x ≡ None
clean_head g before x xs clean = ap (λ z. g z x) (sym (append-nil before)) ∙ clean [] xs x refl

clean_tail : {X F : Type 0} (g : List X → X → Option F) (before : List X) (x : X) (xs : List X) → IsClean g before (x ∷ xs)
    → IsClean g (before ++ x ∷ []) xs
clean_tail g before x xs clean p q y e = ap (λ u. g u y) (append_assoc before (x ∷ []) p) ∙ clean (x ∷ p) q y (ap (λ z. x ∷ z) e)

pub from_first : {X F : Type 0} (g : List X → X → Option F) (before xs : List X) (f : F) → first_of g before xs ≡ Some f
    → First g before xs f
from_first g before [] f e = cc
from_first {X} {F} g before (x ∷ xs) f e = by_case (g before x) refl (from_first g (before ++ x ∷ []) xs f) e
  where
    by_case : (o : Option F) → g before x ≡ o → (first_of g (before ++ x ∷ []) xs ≡ Some f → First g (before ++ x ∷ []) xs f)
        → option_or o (first_of g (before ++ x ∷ []) xs) ≡ Some f → First g before (x ∷ xs) f
    by_case None none more t =
        let r = more t in
        record {
          front = x ∷ r.front;
          item = r.item;
          rest = r.rest;
          split = ap (λ z. x ∷ z) r.split;
          says = ap (λ u. g u r.item) (sym (append_assoc before (x ∷ []) r.front)) ∙ r.says;
          clean = clean_more g before x r.front none r.clean;
        }
    by_case (Some h) says more t =
        let same : h ≡ f = cc in
        record {
          front = [];
          item = x;
          rest = xs;
          split = refl;
          says = ap (λ u. g u x) (append-nil before) ∙ says ∙ ap Some same;
          clean = λ p q y e. empty p y q e;
        }
      where
        empty : (p : List X) (y : X) (q : List X) → [] ≡ p ++ y ∷ q → g (before ++ p) y ≡ None
        empty [] y q e = cc
        empty (z ∷ p) y q e = cc

pub in_first : {X F : Type 0} (g : List X → X → Option F) (before front : List X) (item : X) (rest : List X) (f : F)
    → g (before ++ front) item ≡ Some f → IsClean g before front → first_of g before (front ++ item ∷ rest) ≡ Some f
in_first g before [] item rest f says clean =
    ap (λ o. option_or o (first_of g (before ++ item ∷ []) rest)) (ap (λ u. g u item) (sym (append-nil before)) ∙ says)
in_first g before (x ∷ front) item rest f says clean =
    ap (λ o. option_or o (first_of g (before ++ x ∷ []) (front ++ item ∷ rest))) (clean_head g before x front clean)
    ∙ in_first g (before ++ x ∷ []) front item rest f (ap (λ u. g u item) (append_assoc before (x ∷ []) front) ∙ says)
    (clean_tail g before x front clean)

pub from_none : {X F : Type 0} (g : List X → X → Option F) (before xs : List X) → first_of g before xs ≡ None
    → IsClean g before xs
from_none {X} {F} g before [] e = λ p q y s. empty p q y s
  where
    empty : (p q : List X) (y : X) → [] ≡ p ++ y ∷ q → g (before ++ p) y ≡ None
    empty [] q y s = cc
    empty (z ∷ p) q y s = cc
from_none {X} {F} g before (x ∷ xs) e = by_case (g before x) refl (from_none g (before ++ x ∷ []) xs) e
  where
    by_case : (o : Option F) → g before x ≡ o → (first_of g (before ++ x ∷ []) xs ≡ None → IsClean g (before ++ x ∷ []) xs)
        → option_or o (first_of g (before ++ x ∷ []) xs) ≡ None → IsClean g before (x ∷ xs)
    by_case None none more t = clean_more g before x xs none (more t)
    by_case (Some h) says more t = cc

pub in_none : {X F : Type 0} (g : List X → X → Option F) (before xs : List X) → IsClean g before xs → first_of g before xs ≡ None
in_none g before [] clean = refl
in_none g before (x ∷ xs) clean =
    ap (λ o. option_or o (first_of g (before ++ x ∷ []) xs)) (clean_head g before x xs clean) ∙ in_none g (before ++ x ∷ []) xs
    (clean_tail g before x xs clean)
