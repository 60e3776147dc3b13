-- No leaf is met twice.
use Rattle.adl_hierarchy.proofs.Common.{AreNamesSound, Bool, Hierarchy, IsIn, IsOnce, List, Name, Part, Path, Placed, Source, [], ap, body, cond, false, from_map, hierarchy_of, inl, inr, is_composite, leaves, leaves_within, length, map, name_of}
use Rattle.adl_hierarchy.proofs.Common.{outside, placed_by, refl, subst, suc, sym, top_number, true, zero, ℕ, ◌∷◌, ◌≡◌}
use Rattle.adl_hierarchy.proofs.PartNames.{names_once}
use Rattle.adl_hierarchy.proofs.Repeats.{once_map, head_of, tail_of, once_by_head}

paths : List Placed → List Path
paths xs = map (λ x. x.path) xs

paths_outside : (n : Name) (xs : List Placed) → paths (map (outside n) xs) ≡ map (λ p. n ∷ p) (paths xs)
unfolding paths
paths_outside n [] = refl
paths_outside n (x ∷ xs) = ap (λ ps. (n ∷ x.path) ∷ ps) (paths_outside n xs)

-- the paths of an instance's leaves begin with its name
begins : (x : Part) (ys : List Placed) (b : Bool) (z : Placed)
    → IsIn z (cond b (map (outside (name_of x)) ys) (record { path = name_of x ∷ []; part = x } ∷ []))
    → head_of z.path ≡ name_of x
begins x ys true z i = let k = from_map (outside (name_of x)) z ys i in ap (λ (u : Placed). head_of u.path) (sym k.2)
begins x ys false z (inl e) = ap (λ (u : Placed). head_of u.path) (sym e)
begins x ys false z (inr i) = absurd i

once_outside : (x : Part) (ys : List Placed) (b : Bool) → IsOnce (paths ys)
    → IsOnce (paths (cond b (map (outside (name_of x)) ys) (record { path = name_of x ∷ []; part = x } ∷ [])))
unfolding paths
once_outside x ys true a =
    subst (λ ps. IsOnce ps) (sym (paths_outside (name_of x) ys)) (once_map (λ p. name_of x ∷ p) tail_of (paths ys) (λ p. refl) a)
once_outside x ys false a = (λ i. i, tt)

leaves_once : (h : Hierarchy) → ((k : ℕ) → IsOnce (map name_of (body h k).parts)) → (n k : ℕ)
    → IsOnce (paths (leaves_within h n k))
unfolding paths
leaves_once h a zero k = tt
leaves_once h a (suc n) k =
    once_by_head name_of (placed_by h (leaves_within h n)) (λ (z : Placed). z.path)
    (λ x. once_outside x (leaves_within h n x.kind) (is_composite h x.kind) (leaves_once h a n x.kind))
    (λ x z i. begins x (leaves_within h n x.kind) (is_composite h x.kind) z i) (body h k).parts (a k)

-- where no body names two parts alike, no two leaves of an instance have one path
pub paths_within_once : (h : Hierarchy) → ((k : ℕ) → IsOnce (map name_of (body h k).parts)) → (n k : ℕ)
    → IsOnce (map (λ x. x.path) (leaves_within h n k))
unfolding paths
paths_within_once h a n k = leaves_once h a n k

pub leaf_paths_once : (s : Source) → AreNamesSound s → IsOnce (map (λ x. x.path) (leaves (hierarchy_of s)))
unfolding paths
leaf_paths_once s sound = leaves_once (hierarchy_of s) (names_once s sound) (length (hierarchy_of s).bodies)
    (top_number (hierarchy_of s))
