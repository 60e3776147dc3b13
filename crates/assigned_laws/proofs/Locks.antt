-- Locks of the flat system are locks of leaves by the hierarchy, and the other way round.
use Rattle.std.proofs.Common.{rules}
use Rattle.assigned_laws.proofs.Common.{AreApart, AreNamesSound, Authority, Body, Bool, Component, IsIn, IsLockEdge, IsNamed, ItemAt, LabelNumbers, Leaf, LockAt, LockOf, None, OfDomain, Path, Placed, Some, Source, Tables, WithLock, ap, at, at_part}
use Rattle.assigned_laws.proofs.Common.{body, body_number, cond, domain_found, domain_label, domain_number, domain_of, domains, domains_are, edge, false, flat_domain, flat_of, from_get_map, from_map, get_map, hierarchy_of, in_get, is_device}
use Rattle.assigned_laws.proofs.Common.{is_hardware, item_of, leaf_component, leaf_of, leaves, leaves_stand, members_at, members_of_part, option_map_or, paths_are_leaves, place_of, refl, slice_get, subst, sym, tables_with, top_number, true, ℕ, ◌↔◌}
use Rattle.assigned_laws.proofs.Common.{◌∙◌, ◌≡◌}
use Rattle.adl_ast.specs.declared.component.Member.TheVariants as members
use Rattle.assigned_laws.proofs.Naming.{path_is}

module _ (s : Source) (sound : AreNamesSound s) (numbers : LabelNumbers) where
  abbrev t : Tables
  t = tables_with s numbers

  -- the domain of a leaf that is no device
  domain_named : (x : Placed) → IsIn x (leaves (hierarchy_of s)) → is_hardware (hierarchy_of s) x.part ≡ false
      → IsNamed t (domain_label t (domain_number (hierarchy_of s) (domain_of (hierarchy_of s) x.path)))
      (domain_of (hierarchy_of s) x.path)
  domain_named x i soft =
      let h = hierarchy_of s in let d = domain_of h x.path in
      let there = domain_found h d ((domains_are h d).1 (x, i, soft, refl)) in
      record {
        labelled = OfDomain (domain_number h d);
        there = (flat_domain h d, get_map (flat_domain h) (domains h) (domain_number h d) d there, refl);
        is = refl;
      }

  -- the component of a leaf
  record Typed (x : Placed) : Type 0 where
    component : ItemAt × Component
    is : (body (hierarchy_of s) x.part.kind).component ≡ Some component.1
    members_are : members_at s (item_of (hierarchy_of s) x.part) ≡ component.1.members
    device : is_hardware (hierarchy_of s) x.part ≡ is_device component.1

  typed : (x : Placed) → IsIn x (leaves (hierarchy_of s)) → Typed x
  typed x i =
      let h = hierarchy_of s in let c = leaf_component s sound x i in
      let b = body_number s x.part.kind c.0 c.1 in
      let is : (body h x.part.kind).component ≡ Some c.0.1 = ap (λ (z : Body). z.component) b in
      search (rules, members_of_part)

  soft_of : (x : Placed) (d : ℕ) → (leaf_of (hierarchy_of s) x).domain ≡ Some d → (is_hardware (hierarchy_of s) x.part ≡ false)
      × (domain_number (hierarchy_of s) (domain_of (hierarchy_of s) x.path) ≡ d)
  soft_of x d e = search (rules)

  pub lock_of : (k : LockAt s (flat_of s)) → (o : LockOf (hierarchy_of s)) × IsNamed t (domain_label t k.domain)
      (domain_of (hierarchy_of s) o.leaf)
  lock_of k =
      let h = hierarchy_of s in let g = from_get_map (leaf_of h) (leaves h) k.leaf k.found k.here in
      let x = g.0 in let i = in_get (leaves h) k.leaf x g.1 in
      let stands = (leaves_stand s sound x).0 i in let c = typed x i in
      let soft = soft_of x k.domain (ap (λ (z : Leaf). z.domain) g.2 ∙ k.inside) in
      let declared : slice_get c.component.1.members k.member ≡ Some (members.Lock k.lock) =
      ap (λ ms. slice_get ms k.member) (sym c.members_are) ∙ ap (λ (z : Leaf). slice_get (members_at s z.component) k.member) g.2
      ∙ k.declared in (
        record {
          leaf = x.path;
          kind = x.part.kind;
          there = at_part h (top_number h) x.path x.part stands.0;
          simple = stands.1;
          component = c.component.1;
          is = c.is;
          software = sym c.device ∙ soft.0;
          lock = k.lock;
          declared = in_get c.component.1.members k.member (members.Lock k.lock) declared;
        },
        subst (λ z. IsNamed t (domain_label t z) (domain_of h x.path)) soft.1 (domain_named x i soft.0),
      )

  pub lock_at : (o : LockOf (hierarchy_of s)) → (k : LockAt s (flat_of s)) × IsNamed t (domain_label t k.domain)
      (domain_of (hierarchy_of s) o.leaf)
  lock_at o =
      let h = hierarchy_of s in let m = (paths_are_leaves s sound o.leaf).1 (o.kind, o.there, o.simple) in
      let g = from_map (λ (x : Placed). x.path) o.leaf (leaves h) m in
      let x = g.0 in let i = g.1 in
      let stands = (leaves_stand s sound x).0 i in let c = typed x i in
      let there : at h (top_number h) o.leaf ≡ Some x.part.kind = search (rules, at_part) in
      let kinds : Some o.kind ≡ Some x.part.kind = sym o.there ∙ there in
      let kind : o.kind ≡ x.part.kind = cc in
      let both : Some o.component ≡ Some c.component.1 = sym o.is ∙ ap (λ z. (body h z).component) kind ∙ c.is in
      let same : o.component ≡ c.component.1 = cc in
      let soft : is_hardware h x.part ≡ false = c.device ∙ ap is_device (sym same) ∙ o.software in
      let n = place_of x (leaves h) i in let d = domain_number h (domain_of h x.path) in
      let p = place_of (members.Lock o.lock) c.component.1.members
      (subst (λ (z : Component). IsIn (members.Lock o.lock) z.members) same o.declared) in (
        record {
          leaf = n.0;
          found = leaf_of h x;
          here = get_map (leaf_of h) (leaves h) n.0 x n.1;
          domain = d;
          inside = ap (λ b. cond b None (Some d)) soft;
          member = p.0;
          lock = o.lock;
          declared = ap (λ ms. slice_get ms p.0) c.members_are ∙ p.1;
        },
        subst (λ z. IsNamed t (domain_label t d) (domain_of h z)) g.2 (domain_named x i soft),
      )

  -- what there is to do with a lock, by paths and by numbers
  pub lock_held : AreApart t → (p : Path) (a : Authority) (q : Path) → WithLock (hierarchy_of s) p a q
      ↔ ((l m : ℕ) × IsNamed t l p × IsNamed t m q × IsLockEdge t (edge l a m))
  lock_held apart p a q = (
    λ h.
        let k = lock_at h.lock in
        let label = domain_label t k.0.domain in (
          label,
          label,
          subst (λ z. IsNamed t label z) (sym h.from_is) k.1,
          subst (λ z. IsNamed t label z) (sym h.to_is) k.1,
          record { lock = k.0; from = refl; conferred = h.conferred; to = refl },
        ),
    λ r.
        let e = r.4 in let k = lock_of e.lock in
        let label = domain_label t e.lock.domain in let domain = domain_of (hierarchy_of s) k.0.leaf in
        record {
          lock = k.0;
          from_is = path_is t apart r.0 label p domain e.from r.2 k.1;
          conferred = e.conferred;
          to_is = path_is t apart r.1 label q domain e.to r.3 k.1;
        },
  )
