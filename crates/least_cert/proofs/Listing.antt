-- What lists of edges have: after a push, and after a filter.
use Rattle.least_cert.proofs.Common.{Bool, Edge, List, Option, Some, [], ap, at_has, false, filter_map, has, has_at, inl, inr, or_cases, or_left, or_right, refl, rules, same_edge, same_edge_self, same_edge_true, sym, true, ◌++◌, ◌||◌, ◌∙◌, ◌∷◌, ◌≡◌, ◌⊎◌}
use Rattle.cam_base.proofs.Lists.{from_filter_map, to_filter_map}

pub or_assoc : (a b c : Bool) → (a || (b || c)) ≡ ((a || b) || c)
or_assoc true b c = refl
or_assoc false b c = refl

pub or_none : (a : Bool) → a || false ≡ a
or_none true = refl
or_none false = refl

pub has_append : (xs ys : List Edge) (e : Edge) → has (xs ++ ys) e ≡ (has xs e || has ys e)
has_append [] ys e = refl
has_append (d ∷ xs) ys e = ap (λ (b : Bool). same_edge d e || b) (has_append xs ys e)
    ∙ or_assoc (same_edge d e) (has xs e) (has ys e)

pub has_front : (xs ys : List Edge) (e : Edge) → has xs e ≡ true → has (xs ++ ys) e ≡ true
has_front xs ys e h = has_append xs ys e ∙ or_left (has xs e) (has ys e) h

pub has_push : (xs : List Edge) (d e : Edge) → has (xs ++ d ∷ []) e ≡ (has xs e || same_edge d e)
has_push xs d e = has_append xs (d ∷ []) e ∙ ap (λ (b : Bool). has xs e || b) (or_none (same_edge d e))

pub has_last : (xs : List Edge) (d e : Edge) → has (xs ++ d ∷ []) e ≡ true → (has xs e ≡ true) ⊎ (d ≡ e)
has_last xs d e h = elim (or_cases (has xs e) (same_edge d e) (sym (has_push xs d e) ∙ h)) [
  | inl x ↦ inl x
  | inr x ↦
      inr (same_edge_true d e x)
]

pub has_end : (xs : List Edge) (d : Edge) → has (xs ++ d ∷ []) d ≡ true
has_end xs d = has_push xs d d ∙ or_right (has xs d) (same_edge d d) (same_edge_self d)

-- an edge that was put into a set
pub put_has : (old : Bool) (d e : Edge) → old ≡ true → old || same_edge d e ≡ true
put_has old d e h = or_left old (same_edge d e) h

pub put_self : (old : Bool) (d : Edge) → old || same_edge d d ≡ true
put_self old d = or_right old (same_edge d d) (same_edge_self d)

pub put_cases : (old : Bool) (d e : Edge) → old || same_edge d e ≡ true → (old ≡ true) ⊎ (d ≡ e)
put_cases old d e h = elim (or_cases old (same_edge d e) h) [ inl x ↦ inl x | inr x ↦ inr (same_edge_true d e x) ]

-- ---- filters

pub from_mapped : (f : Edge → Option Edge) (xs : List Edge) (e : Edge) → has (filter_map f xs) e ≡ true
    → (x : Edge) × (has xs x ≡ true) × (f x ≡ Some e)
from_mapped f xs e h = search (rules, at_has, from_filter_map, has_at)

pub to_mapped : (f : Edge → Option Edge) (xs : List Edge) (x e : Edge) → has xs x ≡ true → f x ≡ Some e
    → has (filter_map f xs) e ≡ true
to_mapped f xs x e h is =
    let at = at_has xs x h in
    let to = to_filter_map f xs at.0 x e at.1 is in
    has_at (filter_map f xs) to.0 e to.1
