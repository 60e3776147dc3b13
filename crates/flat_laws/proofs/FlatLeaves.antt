-- The leaves and domains of a flat system, by number.
use Rattle.flat_laws.proofs.Common.{AreNamesSound, Body, Bool, Component, Domain, HaveFewMembers, Hierarchy, IsIn, ItemAt, Leaf, None, Option, Part, Path, Placed, Some, Source, [], all_in, ap, arith, at_place, body, body_number}
use Rattle.flat_laws.proofs.Common.{components, cond, domain_found, domain_number, domain_number_is, domain_of, domains, domains_are, false, flat_domain, flat_of, from_get_map, get_map, hierarchy_of, in_get, is_hardware, item_of, leaf_members}
use Rattle.flat_laws.proofs.Common.{leaf_of, leaves, leaves_of_domain, length, length-map, map, members_at, members_of_leaf, option_and_then_some, part_named, part_of_body, refl, slice_get, subst, sym, top_number, true, unwrap_or, ℕ, ◌∙◌, ◌∷◌, ◌≡◌}
use Rattle.flat_laws.proofs.Common.{◌≤◌}
use Rattle.adl_hierarchy.specs.PartAt.{part_at}
use Rattle.adl_hierarchy.proofs.Leaves.{leaves_stand}
use Rattle.adl_hierarchy.proofs.ComponentNumbers.{numbers_below}
use Rattle.adl_hierarchy.proofs.Steps.{part_in}
use Rattle.flat_laws.proofs.MembersAt.{members_there}

-- ---- places

-- ---- the component of a leaf

part_stands : (h : Hierarchy) (k : ℕ) (p : Path) (x : Part) → part_at h k p ≡ Some x → (m : ℕ) × IsIn x (body h m).parts
part_stands h k [] x e = cc
part_stands h k (n ∷ []) x e = (k, part_in h k n x e)
part_stands h k (n ∷ m ∷ p) x e = option_and_then_some (λ (y : Part). part_at h y.kind (m ∷ p)) (part_named (body h k).parts n) x
    e (λ y e1 e2. part_stands h y.kind (m ∷ p) x e2)

pub leaf_component : (s : Source) → AreNamesSound s → (x : Placed) → IsIn x (leaves (hierarchy_of s))
    → (c : ItemAt × Component) × (slice_get (components s) x.part.kind ≡ Some c)
leaf_component s sound x i =
    let h = hierarchy_of s in
    let m = part_stands h (top_number h) x.path x.part ((leaves_stand s sound x).0 i).0 in
    let trees = map (λ (c : ItemAt × Component). c.1) (components s) in
    let low = numbers_below trees x.part.instance.component.name x.part.kind (part_of_body s m.0 x.part m.1).typed in
    at_place (components s) x.part.kind (omega (arith, low, length-map (components s) (λ (c : ItemAt × Component). c.1)))

-- the members at the place of an instance's component are the component's
pub members_of_part : (s : Source) (x : Part) (c : ItemAt × Component) → slice_get (components s) x.kind ≡ Some c
    → members_at s (item_of (hierarchy_of s) x) ≡ c.1.members
members_of_part s x c e =
    ap (λ (b : Body). members_at s (unwrap_or b.item (record { file = 0; item = 0 }))) (body_number s x.kind c e)
    ∙ members_there s c (in_get (components s) x.kind c e)

pub few_members : (s : Source) → AreNamesSound s → HaveFewMembers s → (leaf : ℕ)
    → length (leaf_members s (flat_of s) leaf) ≤ 1048576
few_members s sound few leaf = by_leaf (slice_get (flat_of s).leaves leaf) refl
  where
    by_leaf : (o : Option Leaf) → slice_get (flat_of s).leaves leaf ≡ o → length (members_of_leaf s o) ≤ 1048576
    by_leaf None e = omega arith
    by_leaf (Some l) e =
        let h = hierarchy_of s in
        let x = from_get_map (leaf_of h) (leaves h) leaf l e in
        let c = leaf_component s sound x.0 (in_get (leaves h) leaf x.0 x.1) in
        let Q : Leaf → Type 0 = λ z. length (members_at s z.component) ≤ 1048576 in
        let own = all_in (λ (c : ItemAt × Component). length c.1.members ≤ 1048576) (components s) c.0 few
        (in_get (components s) x.0.part.kind c.0 c.1) in
        subst Q x.2 (subst (λ ms. length ms ≤ 1048576) (sym (members_of_part s x.0.part c.0 c.1)) own)

-- ---- leaves of domains

-- a leaf that is no device has the domain of its path, and stands in it
domain_is : (h : Hierarchy) (x : Placed) (d : ℕ) → (leaf_of h x).domain ≡ Some d → (is_hardware h x.part ≡ false)
    × (domain_number h (domain_of h x.path) ≡ d)
domain_is h x d e = by_test (is_hardware h x.part) e
  where
    by_test : (b : Bool) → cond b None (Some (domain_number h (domain_of h x.path))) ≡ Some d
        → (b ≡ false) × (domain_number h (domain_of h x.path) ≡ d)
    by_test true e = cc
    by_test false e = (refl, cc)

pub leaf_listed : (h : Hierarchy) (l d : ℕ) (leaf : Leaf) → slice_get (map (leaf_of h) (leaves h)) l ≡ Some leaf
    → leaf.domain ≡ Some d
    → (domain : Domain) × (slice_get (map (flat_domain h) (domains h)) d ≡ Some domain) × IsIn l domain.leaves
leaf_listed h l d leaf e f =
    let x = from_get_map (leaf_of h) (leaves h) l leaf e in
    let path = domain_of h x.0.path in
    let is = domain_is h x.0 d (ap (λ (z : Leaf). z.domain) x.2 ∙ f) in
    let there = domain_found h path ((domains_are h path).1 (x.0, in_get (leaves h) l x.0 x.1, is.0, refl)) in (
      flat_domain h path,
      get_map (flat_domain h) (domains h) d path (ap (slice_get (domains h)) (sym is.1) ∙ there),
      (leaves_of_domain h path l).1 (x.0, x.1, is.0, refl),
    )

pub leaf_owned : (h : Hierarchy) (d l : ℕ) (domain : Domain) → slice_get (map (flat_domain h) (domains h)) d ≡ Some domain
    → IsIn l domain.leaves → (leaf : Leaf) × (slice_get (map (leaf_of h) (leaves h)) l ≡ Some leaf) × (leaf.domain ≡ Some d)
leaf_owned h d l domain e i =
    let path = from_get_map (flat_domain h) (domains h) d domain e in
    let x = (leaves_of_domain h path.0 l).0 (subst (λ (z : Domain). IsIn l z.leaves) (sym path.2) i) in (
      leaf_of h x.0,
      get_map (leaf_of h) (leaves h) l x.0 x.1,
      ap (λ b. cond b None (Some (domain_number h (domain_of h x.0.path)))) x.2 ∙ ap (λ p. Some (domain_number h p)) x.3
          ∙ ap Some (domain_number_is h d path.0 path.1),
    )
