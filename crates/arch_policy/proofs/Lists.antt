-- What stands in lists that are made by a test
use Rattle.arch_policy.proofs.Common.{Bool, Edge, IsIn, List, [], ap, cond, eq-eqb, eqb-true, false, filter, from_any, has, inl, inr, leads_out, list_any, not, refl, same_edge, same_edge_self, same_edge_true, subst, sym, true, true≢false, where_true}
use Rattle.arch_policy.proofs.Common.{rules, ◌==◌, ◌||◌, ◌∙◌, ◌∷◌, ◌≡◌, ◌≢◌}

pub from_where : {X : Type 0} (b : Bool) (x y : X) → IsIn y (where_true b x) → (b ≡ true) × (x ≡ y)
from_where true x y (inl e) = (refl, e)
from_where true x y (inr i) = absurd i
from_where false x y i = absurd i

pub in_where : {X : Type 0} (b : Bool) (x : X) → b ≡ true → IsIn x (where_true b x)
in_where b x e = let P : Bool → Type 0 = λ b. IsIn x (where_true b x) in subst P (sym e) (inl refl)

pub in_any : {X : Type 0} (p : X → Bool) (x : X) (xs : List X) → IsIn x xs → p x ≡ true → list_any p xs ≡ true
in_any p x [] i h = absurd i
in_any p x (y ∷ ys) (inl e) h = ap (λ b. b || list_any p ys) (ap p e ∙ h)
in_any p x (y ∷ ys) (inr i) h = go (p y) (in_any p x ys i h) where
  go : (b : Bool) → list_any p ys ≡ true → b || list_any p ys ≡ true
  go true r = refl
  go false r = r

pub from_filter : {X : Type 0} (p : X → Bool) (x : X) (xs : List X) → IsIn x (filter p xs) → IsIn x xs × (p x ≡ true)
from_filter p x [] i = absurd i
from_filter {X} p x (y ∷ ys) i = go (p y) refl (from_filter p x ys) i where
  go : (b : Bool) → p y ≡ b → (IsIn x (filter p ys) → IsIn x ys × (p x ≡ true)) → IsIn x (cond b (y ∷ filter p ys) (filter p ys))
      → IsIn x (y ∷ ys) × (p x ≡ true)
  go true e rest (inl same) = (inl same, ap p (sym same) ∙ e)
  go true e rest (inr j) = let r = rest j in (inr r.0, r.1)
  go false e rest j = let r = rest j in (inr r.0, r.1)

pub in_filter : {X : Type 0} (p : X → Bool) (x : X) (xs : List X) → IsIn x xs → p x ≡ true → IsIn x (filter p xs)
in_filter p x [] i h = absurd i
in_filter {X} p x (y ∷ ys) i h = go (p y) refl i (λ j. in_filter p x ys j h) where
  go : (b : Bool) → p y ≡ b → IsIn x (y ∷ ys) → (IsIn x ys → IsIn x (filter p ys))
      → IsIn x (cond b (y ∷ filter p ys) (filter p ys))
  go true e (inl same) rest = inl same
  go true e (inr j) rest = inr (rest j)
  go false e (inl same) rest = absurd (true≢false (sym h ∙ ap p (sym same) ∙ e))
  go false e (inr j) rest = rest j

-- ---- edges

pub has_in : (e : Edge) (es : List Edge) → has es e ≡ true → IsIn e es
has_in e es h =
    let g = from_any (λ d. same_edge d e) es h in
    subst (λ z. IsIn z es) (same_edge_true g.0 e g.2) g.1

pub in_has : (e : Edge) (es : List Edge) → IsIn e es → has es e ≡ true
in_has e es i = in_any (λ d. same_edge d e) e es i (same_edge_self e)

pub led_out : (e : Edge) → leads_out e ≡ true → e.from ≢ e.to
led_out e h same = true≢false (sym h ∙ ap not (eq-eqb e.from e.to same))

pub leads : (e : Edge) → e.from ≢ e.to → leads_out e ≡ true
leads e differ = search (rules, eqb-true)
