-- The domains of a hierarchy are those of its leaves.
use Rattle.adl_hierarchy.proofs.Common.{AreNamesSound, Bool, Decides, Hierarchy, IsIn, IsOnce, List, Path, Placed, Some, Source, and_from, and_parts, ap, arith, bytes_eq-Decides, domain_number, domain_of, domains, enumerate_from, false, filter}
use Rattle.adl_hierarchy.proofs.Common.{flat_domain, from_enumerate, from_map, hierarchy_of, in_enumerate, in_map, is_hardware, is_inside, leaf_number, leaves, map, map-id, not, not-true, refl, same_path, slice_eq-Decides, slice_get, subst, sym}
use Rattle.adl_hierarchy.proofs.Common.{true, ℕ, ◌+◌, ◌↔◌, ◌∙◌, ◌≡◌}
use Rattle.adl_hierarchy.proofs.Once.{leaf_paths_once}
use Rattle.adl_hierarchy.proofs.Places.{place_is, at_place, in_filter, from_filter, once_filter, numbers_once, firsts_are, once_firsts}

pub same_path-Decides : (p q : Path) → Decides (same_path p q) (p ≡ q)
same_path-Decides p q = slice_eq-Decides bytes_eq-Decides p q (same_path p q) refl

not_true : (b : Bool) → b ≡ false → not b ≡ true
not_true true e = cc
not_true false e = refl

pub domains_are : (h : Hierarchy) (d : Path) → IsIn d (domains h)
    ↔ ((x : Placed) × IsIn x (leaves h) × (is_hardware h x.part ≡ false) × (domain_of h x.path ≡ d))
domains_are h d =
    let software : Placed → Bool = λ x. not (is_hardware h x.part) in
    let domain : Placed → Path = λ x. domain_of h x.path in
    let are = firsts_are same_path same_path-Decides (map domain (filter software (leaves h))) d in (
      λ i.
          let x = from_map domain d (filter software (leaves h)) (are.0 i) in
          let k = from_filter software (leaves h) x.0 x.1 in
          (x.0, k.0, not-true (is_hardware h x.0.part) k.1, x.2),
      λ x.
          let P : Path → Type 0 = λ p. IsIn p (map domain (filter software (leaves h))) in
          are.1
          (subst P x.3 (in_map domain x.0 (filter software (leaves h)) (in_filter software (leaves h) x.0 x.1
          (not_true (is_hardware h x.0.part) x.2)))),
    )

pub domains_once : (h : Hierarchy) → IsOnce (domains h)
domains_once h =
    once_firsts same_path same_path-Decides (map (λ x. domain_of h x.path) (filter (λ x. not (is_hardware h x.part)) (leaves h)))

-- the numbers of a domain's leaves
pub leaves_of_domain : (h : Hierarchy) (d : Path) (n : ℕ) → IsIn n (flat_domain h d).leaves
    ↔ ((x : Placed) × (slice_get (leaves h) n ≡ Some x) × (is_hardware h x.part ≡ false) × (domain_of h x.path ≡ d))
leaves_of_domain h d n =
    let inner : ℕ × Placed → Bool = λ x. is_inside h d x.1 in
    let number : ℕ × Placed → ℕ = λ x. x.0 in (
      λ i.
          let x = from_map number n (filter inner (enumerate_from 0 (leaves h))) i in
          let k = from_filter inner (enumerate_from 0 (leaves h)) x.0 x.1 in
          let j = from_enumerate 0 (leaves h) x.0 k.0 in
          let b = and_parts (not (is_hardware h x.0.1.part)) (same_path (domain_of h x.0.1.path) d) k.1 in
          let s : j.0 ≡ n = let e = j.1 in let f = x.2 in omega arith in (
            x.0.1,
            ap (slice_get (leaves h)) (sym s) ∙ j.2,
            not-true (is_hardware h x.0.1.part) b.0,
            (same_path-Decides (domain_of h x.0.1.path) d).0 b.1,
          ),
      λ x.
          let s : 0 + n ≡ n = omega arith in
          let b = and_from (not (is_hardware h x.0.part)) (same_path (domain_of h x.0.path) d)
          (not_true (is_hardware h x.0.part) x.2) ((same_path-Decides (domain_of h x.0.path) d).1 x.3) in
          subst (λ m. IsIn m (flat_domain h d).leaves) s (in_map number (0 + n, x.0) (filter inner (enumerate_from 0 (leaves h)))
          (in_filter inner (enumerate_from 0 (leaves h)) (0 + n, x.0) (in_enumerate 0 (leaves h) n x.0 x.1) b)),
    )

pub domain_leaves_once : (h : Hierarchy) (d : Path) → IsOnce (flat_domain h d).leaves
domain_leaves_once h d = once_filter (λ (x : ℕ × Placed). x.0) (λ x. is_inside h d x.1) (enumerate_from 0 (leaves h))
    (numbers_once 0 (leaves h))

-- ---- numbers

pub leaf_number_is : (s : Source) → AreNamesSound s → (n : ℕ) (x : Placed) → slice_get (leaves (hierarchy_of s)) n ≡ Some x
    → leaf_number (hierarchy_of s) x.path ≡ n
leaf_number_is s sound n x e = place_is same_path same_path-Decides (λ (y : Placed). y.path) (leaves (hierarchy_of s)) n x
    (leaf_paths_once s sound) e

pub domain_number_is : (h : Hierarchy) (n : ℕ) (d : Path) → slice_get (domains h) n ≡ Some d → domain_number h d ≡ n
domain_number_is h n d e = place_is same_path same_path-Decides (λ (p : Path). p) (domains h) n d (let P : List Path
    → Type 0 = λ ps. IsOnce ps in subst P (sym (map-id (domains h))) (domains_once h)) e

-- the domain of a leaf stands at its number
pub domain_found : (h : Hierarchy) (d : Path) → IsIn d (domains h) → slice_get (domains h) (domain_number h d) ≡ Some d
domain_found h d i = at_place same_path same_path-Decides (domains h) d i
