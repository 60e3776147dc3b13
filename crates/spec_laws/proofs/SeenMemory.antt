-- The memory of each connection is seen in the domain of its first `from` end.
use Rattle.spec_laws.proofs.Common.{AreDotted, AreNamesSound, Connector, EndAt, FlatConnection, From, HasMemory, Images, IsIn, IsSeen, Leaf, None, Some, Source, [], ap, cond, domain_number, domain_of, end_rule, end_window}
use Rattle.spec_laws.proofs.Common.{ends, ends_at, ends_typed, false, first_type_fault, flat_of, from_get_map, given, hardware_fits, hierarchy_of, in_flat_map, inl, inr, is_hardware, is_window, joins, leaf_listed, leaf_of, leaf_windows, leaves}
use Rattle.spec_laws.proofs.Common.{leaves_of, refl, rules, sees_memory, settled_of, slice_get, some_end, subst, sym, true, ℕ, ◌∙◌, ◌∷◌, ◌≡◌}
use Rattle.adl_ast.specs.declared.component.Member.TheVariants as members
use Rattle.spec_laws.proofs.EndsHere.{in_its_ends}

-- ---- `from` ends are of software

soft_from : (c : Connector) → HasMemory c → (end_rule c From).hardware ≡ false
soft_from c (inl is) = ap (λ z. (end_rule z From).hardware) is
soft_from c (inr is) = ap (λ z. (end_rule z From).hardware) is

window_from : (c : Connector) → HasMemory c → is_window c From ≡ true
window_from c (inl is) = ap (λ z. is_window z From) is
window_from c (inr is) = ap (λ z. is_window z From) is

-- a leaf of software has a domain
pub has_domain : (s : Source) (l : ℕ) (leaf : Leaf) → slice_get (flat_of s).leaves l ≡ Some leaf → leaf.hardware ≡ false
    → (d : ℕ) × (leaf.domain ≡ Some d)
has_domain s l leaf at soft =
    let h = hierarchy_of s in let x = from_get_map (leaf_of h) (leaves h) l leaf at in
    let hard : is_hardware h x.0.part ≡ false = ap (λ (z : Leaf). z.hardware) x.2 ∙ soft in
    let number = domain_number h (domain_of h x.0.path) in
    (number, ap (λ (z : Leaf). z.domain) (sym x.2) ∙ ap (λ b. cond b None (Some number)) hard)

-- ---- its window stands among those of the domain

pub memory_seen : (s : Source) (images : Images) → AreNamesSound s → AreDotted (hierarchy_of s) → first_type_fault s ≡ None
    → (k : ℕ) (c : FlatConnection) → slice_get (flat_of s).connections k ≡ Some c → HasMemory c.connector
    → IsSeen (given s (flat_of s) (settled_of s) images) k
memory_seen s images sound dotted none k c at t =
    let g = given s (flat_of s) (settled_of s) images in
    let f = some_end s sound dotted none k c at From in let e = f.1 in
    let y = ends_typed s sound dotted none k f.0 c e at f.2 in
    let soft : y.leaf.hardware ≡ false = search (rules, hardware_fits, soft_from) in
    let d = has_domain s e.leaf y.leaf y.here soft in
    let home = leaf_listed (hierarchy_of s) e.leaf d.0 y.leaf y.here d.1 in
    let x : EndAt = record { connection = k; end = f.0 } in
    let sees : sees_memory g.flat x ≡ true = search (rules, window_from) in
    let window : IsIn x (end_window g.flat x) = subst (λ b. IsIn x (cond b (x ∷ []) [])) (sym sees) (inl refl) in
    let among : IsIn x (leaf_windows g.flat (ends g) e.leaf) = in_flat_map (end_window g.flat) x x (ends_at (ends g) e.leaf)
    (in_its_ends g (record { place = k; connection = c; here = at; number = f.0; end = e; stands = f.2 }) y.leaf
    (members.Interface y.interface) y.here y.joined) window in
    let inside : IsIn e.leaf (leaves_of g.flat d.0) = search (rules) in
    record {
      place = d.0;
      domain = home.0;
      here = home.1;
      end = x;
      window = in_flat_map (leaf_windows g.flat (ends g)) e.leaf x (leaves_of g.flat d.0) inside among;
      joins = refl;
    }
