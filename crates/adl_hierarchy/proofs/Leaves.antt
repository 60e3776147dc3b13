-- The walk to the leaves meets each leaf, and nothing else.
use Rattle.adl_hierarchy.proofs.Common.{AreNamesSound, Bool, Hierarchy, IsIn, IsLeaf, IsOnce, List, Name, Part, Path, Placed, Some, Source, [], ap, arith, body, cond, false, from_flat_map, from_map, hierarchy_of, in_flat_map, in_map, inl, inr}
use Rattle.adl_hierarchy.proofs.Common.{is_composite, leaves, leaves_within, length, map, name_of, option_and_then_some, outside, part_at, part_named, placed_by, refl, subst, suc, sym, top_number, true, true≢false, zero, ℕ, ◌↔◌, ◌∙◌, ◌∷◌, ◌≡◌, ◌≤◌}
use Rattle.adl_hierarchy.proofs.Bodies.{top_composed}
use Rattle.adl_hierarchy.proofs.Finite.{sound_is_finite}
use Rattle.adl_hierarchy.proofs.PartNames.{names_once}
use Rattle.adl_hierarchy.proofs.PartsAt.{named_in, part_behind, at_part, part_from_at, path_short, AreComposed, are_composed, is_outer}
use Rattle.adl_hierarchy.proofs.Repeats.{find_once}

-- x stands at its path inside body k, and is a leaf
abbrev pub StandsIn : Hierarchy → ℕ → Placed → Type 0
StandsIn h k x = (part_at h k x.path ≡ Some x.part) × (is_composite h x.part.kind ≡ false)

-- ---- what stands is met

here : (h : Hierarchy) (f : ℕ → List Placed) (x : Part) → is_composite h x.kind ≡ false
    → IsIn (record { path = name_of x ∷ []; part = x }) (placed_by h f x)
here h f x e =
    let Q : Bool → Type 0 = λ b. IsIn (record { path = name_of x ∷ []; part = x }) (cond b (map (outside (name_of x)) (f x.kind))
    (record { path = name_of x ∷ []; part = x } ∷ [])) in
    subst Q (sym e) (inl refl)

inside : (h : Hierarchy) (f : ℕ → List Placed) (x : Part) (y : Placed) → is_composite h x.kind ≡ true → IsIn y (f x.kind)
    → IsIn (outside (name_of x) y) (placed_by h f x)
inside h f x y e i =
    let Q : Bool → Type 0 =
    λ b. IsIn (outside (name_of x) y) (cond b (map (outside (name_of x)) (f x.kind)) (record {
      path = name_of x ∷ [];
      part = x;
    } ∷ [])) in
    subst Q (sym e) (in_map (outside (name_of x)) y (f x.kind) i)

pub met : (h : Hierarchy) → AreComposed h → (n k : ℕ) (p : Path) (x : Part) → length p ≤ n → part_at h k p ≡ Some x
    → is_composite h x.kind ≡ false → IsIn (record { path = p; part = x }) (leaves_within h n k)
met h a n k [] x l e c = cc
met h a zero k (m ∷ p) x l e c = absurd (omega arith)
met h a (suc n) k (m ∷ []) x l e c =
    let i = named_in (body h k).parts m x e in
    let P : Name → Type 0 = λ z. IsIn (record { path = z ∷ []; part = x }) (leaves_within h (suc n) k) in
    subst P i.1 (in_flat_map (placed_by h (leaves_within h n)) x (record { path = name_of x ∷ []; part = x }) (body h k).parts i.0
    (here h (leaves_within h n) x c))
met h a (suc n) k (m ∷ d ∷ p) x l e c =
    option_and_then_some (λ (z : Part). part_at h z.kind (d ∷ p)) (part_named (body h k).parts m) x e (λ y e1 e2.
    let i = named_in (body h k).parts m y e1 in
    let deeper = met h a n y.kind (d ∷ p) x (omega arith) e2 c in
    let z : Placed = record { path = d ∷ p; part = x } in
    let P : Name → Type 0 = λ z. IsIn (record { path = z ∷ d ∷ p; part = x }) (leaves_within h (suc n) k) in
    let composite : is_composite h y.kind ≡ true = outer_at h a y.kind d p x e2 in
    subst P i.1 (in_flat_map (placed_by h (leaves_within h n)) y (outside (name_of y) z) (body h k).parts i.0
    (inside h (leaves_within h n) y z composite deeper)))
  where
    outer_at : (h : Hierarchy) → AreComposed h → (k : ℕ) (d : Name) (p : Path) (x : Part) → part_at h k (d ∷ p) ≡ Some x
        → is_composite h k ≡ true
    outer_at h a k d [] x e = is_outer h a k d x e
    outer_at h a k d (b ∷ p) x e = option_and_then_some (λ (z : Part). part_at h z.kind (b ∷ p)) (part_named (body h k).parts d) x
        e (λ y e1 e2. is_outer h a k d y e1)

-- ---- what is met stands

part_stands : (h : Hierarchy) (k : ℕ) (y : Part) (zs : List Placed) (x : Placed)
    → part_named (body h k).parts (name_of y) ≡ Some y → ((z : Placed) → IsIn z zs → StandsIn h y.kind z)
    → (b : Bool) → is_composite h y.kind ≡ b
    → IsIn x (cond b (map (outside (name_of y)) zs) (record { path = name_of y ∷ []; part = y } ∷ [])) → StandsIn h k x
part_stands h k y zs x e ih true t i =
    let z = from_map (outside (name_of y)) x zs i in
    let s = ih z.0 z.1 in
    let P : Placed → Type 0 = λ u. StandsIn h k u in
    subst P z.2 (part_behind h k (name_of y) z.0.path y z.0.part e s.0, s.1)
part_stands h k y zs x e ih false t (inl s) = let P : Placed → Type 0 = λ u. StandsIn h k u in subst P s (e, t)
part_stands h k y zs x e ih false t (inr i) = absurd i

pub stands : (h : Hierarchy) → ((k : ℕ) → IsOnce (map name_of (body h k).parts)) → (n k : ℕ) (x : Placed)
    → IsIn x (leaves_within h n k) → StandsIn h k x
stands h a zero k x i = absurd i
stands h a (suc n) k x i =
    let y = from_flat_map (placed_by h (leaves_within h n)) x (body h k).parts i in
    part_stands h k y.0 (leaves_within h n y.0.kind) x (find_once name_of (body h k).parts y.0 (a k) y.1)
    (λ z j. stands h a n y.0.kind z j) (is_composite h y.0.kind) refl y.2

-- ---- all leaves

pub leaves_stand : (s : Source) → AreNamesSound s → (x : Placed) → IsIn x (leaves (hierarchy_of s))
    ↔ StandsIn (hierarchy_of s) (top_number (hierarchy_of s)) x
leaves_stand s sound x =
    let h = hierarchy_of s in
    let top = top_number h in (
      stands h (names_once s sound) (length h.bodies) top x,
      λ e. met h (are_composed s) (length h.bodies) top x.path x.part (path_short h (sound_is_finite s sound) top x.part.kind
          x.path (omega arith) (at_part h top x.path x.part e.0)) e.0 e.1,
    )

pub paths_are_leaves : (s : Source) → AreNamesSound s → (p : Path) → IsIn p (map (λ x. x.path) (leaves (hierarchy_of s)))
    ↔ IsLeaf (hierarchy_of s) (top_number (hierarchy_of s)) p
paths_are_leaves s sound p = (to, from p)
  where
    to : IsIn p (map (λ (x : Placed). x.path) (leaves (hierarchy_of s))) → IsLeaf (hierarchy_of s) (top_number (hierarchy_of s)) p
    to i =
        let x = from_map (λ (x : Placed). x.path) p (leaves (hierarchy_of s)) i in
        let e = (leaves_stand s sound x.0).0 x.1 in
        let P : Path → Type 0 = λ q. IsLeaf (hierarchy_of s) (top_number (hierarchy_of s)) q in
        subst P x.2 (x.0.part.kind, at_part (hierarchy_of s) (top_number (hierarchy_of s)) x.0.path x.0.part e.0, e.1)

    from : (p : Path) → IsLeaf (hierarchy_of s) (top_number (hierarchy_of s)) p
        → IsIn p (map (λ (x : Placed). x.path) (leaves (hierarchy_of s)))
    from [] l =
        let same : top_number (hierarchy_of s) ≡ l.0 = let e = l.1 in cc in
        absurd (true≢false (sym (top_composed s sound) ∙ ap (is_composite (hierarchy_of s)) same ∙ l.2))
    from (n ∷ p) l =
        let x = part_from_at (hierarchy_of s) (top_number (hierarchy_of s)) n p l.0 l.1 in
        let y : Placed = record { path = n ∷ p; part = x.0 } in
        in_map (λ (x : Placed). x.path) y (leaves (hierarchy_of s))
        ((leaves_stand s sound y).1 (x.1, ap (is_composite (hierarchy_of s)) x.2 ∙ l.2))
