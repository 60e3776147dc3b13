-- Labels by number and by path.
use Rattle.std.proofs.Common.{rules}
use Rattle.assigned_laws.proofs.Common.{AreApart, AreNamesSound, ArePathsApart, Bool, Flat, HasPath, IsNamed, IsThere, LabelNumbers, Leaf, None, OfConnection, OfDomain, OfLeaf, Option, Owner, Path, Placed, Some, Source, Strung, Tables, ap, at_part}
use Rattle.assigned_laws.proofs.Common.{body, cond, connection_label, connection_path, connections, device_at, domain_found, domain_number, domain_of, domains, domains_are, false, flat_connection, flat_domain, flat_of, get_map, has_label}
use Rattle.assigned_laws.proofs.Common.{hierarchy_of, in_get, is_device, is_hardware, leaf_label, leaf_of, leaves, leaves_stand, number_of, option_map_or, owner, owner_in, refl, slice_get, subst, sym, tables_with, top_number, true, ℕ, ◌∙◌, ◌≡◌}

-- the label of whose a leaf is that is told so
abbrev option_label : Tables → ℕ → Option Leaf → ℕ
option_label t n o = number_of t.numbers (option_map_or (λ x. owner_in n x.domain) o (OfLeaf n))

-- ---- numbers and paths tell each other

pub has_there : (flat : Flat) (x : Owner) (p : Path) → HasPath flat x p → IsThere flat x
has_there flat (OfDomain d) p h = (h.0, h.1)
has_there flat _ p h = (h.0, h.1, h.2)

one_path : (flat : Flat) (x : Owner) (p q : Path) → HasPath flat x p → HasPath flat x q → p ≡ q
one_path flat (OfDomain d) p q h k = search (rules)
one_path flat _ p q h k = search (rules)

pub path_is : (t : Tables) → AreApart t → (l m : ℕ) (p q : Path) → l ≡ m → IsNamed t l p → IsNamed t m q → p ≡ q
path_is t apart l m p q e h k =
    let same = apart h.labelled k.labelled (has_there t.flat h.labelled p h.there) (has_there t.flat k.labelled q k.there)
    (sym h.is ∙ e ∙ k.is) in
    one_path t.flat k.labelled p q (subst (λ z. HasPath t.flat z p) same h.there) k.there

pub number_is : (t : Tables) → ArePathsApart t.flat → (l m : ℕ) (p q : Path) → p ≡ q → IsNamed t l p → IsNamed t m q → l ≡ m
number_is t apart l m p q e h k = search (rules)

-- ---- leaves and connections

module _ (s : Source) (numbers : LabelNumbers) where
  pub leaf_here : (x : Placed) (n : ℕ) → slice_get (leaves (hierarchy_of s)) n ≡ Some x
      → slice_get (flat_of s).leaves n ≡ Some (leaf_of (hierarchy_of s) x)
  leaf_here x n e = get_map (leaf_of (hierarchy_of s)) (leaves (hierarchy_of s)) n x e

  pub device_is : AreNamesSound s → (x : Placed) (n : ℕ) → slice_get (leaves (hierarchy_of s)) n ≡ Some x
      → device_at (hierarchy_of s) x.path ≡ is_hardware (hierarchy_of s) x.part
  device_is sound x n e =
      let h = hierarchy_of s in let stands = (leaves_stand s sound x).0 (in_get (leaves h) n x e) in
      ap (λ z. option_map_or (λ k. option_map_or is_device (body h k).component false) z false)
      (at_part h (top_number h) x.path x.part stands.0)

  pub leaf_named : AreNamesSound s → (x : Placed) (n : ℕ) → slice_get (leaves (hierarchy_of s)) n ≡ Some x
      → let t = tables_with s numbers in IsNamed t (leaf_label t n) (owner (hierarchy_of s) x.path)
  leaf_named sound x n e =
      let h = hierarchy_of s in let t = tables_with s numbers in
      let here = leaf_here x n e in
      let label : leaf_label t n ≡ option_label t n (Some (leaf_of h x)) = ap (option_label t n) here in
      let device = device_is sound x n e in
      by_test (is_hardware h x.part) refl here label device where
        by_test : (b : Bool) → is_hardware (hierarchy_of s) x.part ≡ b
            → slice_get (flat_of s).leaves n ≡ Some (leaf_of (hierarchy_of s) x)
            → leaf_label (tables_with s numbers) n ≡ option_label (tables_with s numbers) n (Some (leaf_of (hierarchy_of s) x))
            → device_at (hierarchy_of s) x.path ≡ is_hardware (hierarchy_of s) x.part
            → IsNamed (tables_with s numbers) (leaf_label (tables_with s numbers) n) (owner (hierarchy_of s) x.path)
        by_test true hard here label device =
            let h = hierarchy_of s in let t = tables_with s numbers in
            let none : (leaf_of h x).domain ≡ None = ap (λ b. cond b None (Some (domain_number h (domain_of h x.path)))) hard in
            let own : owner h x.path ≡ x.path = ap (λ b. cond b x.path (domain_of h x.path)) (device ∙ hard) in
            search (rules)
        by_test false soft here label device =
            let h = hierarchy_of s in let t = tables_with s numbers in
            let d = domain_of h x.path in
            let some : (leaf_of h x).domain ≡ Some (domain_number h d) = search (rules) in
            let own : owner h x.path ≡ d = ap (λ b. cond b x.path (domain_of h x.path)) (device ∙ soft) in
            let at = domain_found h d ((domains_are h d).1 (x, in_get (leaves h) n x e, soft, refl)) in
            record {
              labelled = OfDomain (domain_number h d);
              there = (flat_domain h d, get_map (flat_domain h) (domains h) (domain_number h d) d at, sym own);
              is = label ∙ ap (λ b. option_label t n (Some (record (leaf_of h x) { domain = b }))) some;
            }

  pub connection_named : (y : Strung) (k : ℕ) → slice_get (connections (hierarchy_of s)) k ≡ Some y → has_label y.wire.0 ≡ true
      → let t = tables_with s numbers in IsNamed t (connection_label t k) (connection_path y.path y.wire)
  connection_named y k e labelled =
      let h = hierarchy_of s in
      record {
        labelled = OfConnection k;
        there = (flat_connection h y, get_map (flat_connection h) (connections h) k y e, labelled, refl);
        is = refl;
      }
