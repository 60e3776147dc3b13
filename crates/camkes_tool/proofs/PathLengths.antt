-- Paths of labels have at most 16 names. A device's is that of a leaf, and a domain's has no more names than one of its leaves.
-- A connection joins an interface of a leaf below its composition.
use Rattle.std.proofs.Common.{rules}
use Rattle.camkes_tool.proofs.BackCommon.{AreNamesSound, Domain, FlatConnection, FlatEnd, HasPath, IsIn, List, None, OfConnection, OfDomain, OfLeaf, Option, Owner, Path, Placed, Some, Source, [], ap, arith, flat_domain, flat_end, flat_ends, flat_of}
use Rattle.camkes_tool.proofs.BackCommon.{from_filter_map, from_get_map, in_map, in_place, inl, inr, le-max_left, le-max_right, leaf_of, leaves, length, length-append, map_some, option_map, place_of, refl, subst, sym, unwrap_or, ℕ, ◌++◌, ◌+◌}
use Rattle.camkes_tool.proofs.BackCommon.{◌∙◌, ◌∷◌, ◌≡◌, ◌≤◌}
use Rattle.adl_ast.specs.declared.composition.End.{End}
use Rattle.adl_ast.specs.declared.composition.Role.TheVariants.{From}
use Rattle.adl_hierarchy.proofs.DomainNames.{domains_are}
use Rattle.adl_hierarchy.proofs.Grouping.{above_outermost}
use Rattle.adl_hierarchy.proofs.Joining.{joined}
use Rattle.adl_hierarchy.proofs.Limits.{AreInLimits, in_limits}
use Rattle.adl_hierarchy.specs.Leads.{AreDotted}
use Rattle.adl_meaning.specs.Domains.{domain_of, domains, group_above}
use Rattle.adl_meaning.specs.Hierarchy.{Hierarchy, hierarchy_of, top_number}
use Rattle.adl_meaning.specs.JoinFaults.{first_flat_fault, first_join_fault}
use Rattle.adl_meaning.specs.Joins.{Strung, connections, joined_by}
use Rattle.adl_meaning.specs.SizeFaults.{first_size_fault, longest}
use Rattle.adl_types.specs.TypeFaults.{first_type_fault}
use Rattle.flat_laws.proofs.FewEnds.{no_first}
use Rattle.flat_laws.proofs.FlatEnds.{strung_of}
use Rattle.flat_laws.proofs.SomeEnds.{some_end}

longest_of : (ps : List Path) (p : Path) → IsIn p ps → length p ≤ longest ps
longest_of [] p i = absurd i
longest_of (q ∷ ps) p (inl e) = search (rules, le-max_left)
longest_of (q ∷ ps) p (inr i) =
    let l = le-max_right (length q) (longest ps) in
    let below = longest_of ps p i in
    omega (arith, l, below)

-- a path that goes on below another is longer
longer : (p q below : Path) (n : List ℕ) → p ≡ q ++ n ∷ below → length q + 1 ≤ length p
longer p q below n e = search (rules, length-append)

one_more : (p q : Path) (n : List ℕ) → p ≡ q ++ n ∷ [] → length p ≡ length q + 1
one_more p q n e = search (rules, length-append)

domain_short : (h : Hierarchy) (p : Path) → length (domain_of h p) ≤ length p
domain_short h p = by_group (group_above h (top_number h) p) refl
  where
    by_group : (o : Option Path) → group_above h (top_number h) p ≡ o → length (unwrap_or o p) ≤ length p
    by_group None e = omega arith
    by_group (Some d) e =
        let w = above_outermost h (top_number h) p d e in
        let below = longer p w.above w.below w.name w.split in
        let more = one_more d w.above w.group w.path in
        omega (arith, below, more)

module _ (s : Source) (sound : AreNamesSound s) (limits : AreInLimits s) where
  leaf_short : (x : Placed) → IsIn x (leaves (hierarchy_of s)) → length x.path ≤ 16
  leaf_short x i = search (rules, leaves, longest_of, in_map, limits)

  device_path : (l : ℕ) (p : Path) → HasPath (flat_of s) (OfLeaf l) p → length p ≤ 16
  device_path l p h = search (rules, from_get_map, leaf_of, leaves, leaf_short, in_place)

  domain_path : (d : ℕ) (p : Path) → HasPath (flat_of s) (OfDomain d) p → length p ≤ 16
  domain_path d p h =
      let k = hierarchy_of s in
      let g = from_get_map (flat_domain k) (domains k) d h.0 h.1 in
      let w = (domains_are k g.0).0 (in_place g.0 (domains k) d g.1) in
      let short = leaf_short w.0 w.1 in
      let inside = domain_short k w.0.path in
      let few : length (domain_of k w.0.path) ≤ 16 = omega (arith, short, inside) in
      subst (λ (z : Path). length z ≤ 16) (w.3 ∙ ap (λ (z : Domain). z.path) g.2 ∙ h.2) few

  -- a leaf stands below a composition in which a connection has an end
  below_composition : (y : Strung) → IsIn y (connections (hierarchy_of s)) → (f : FlatEnd) → IsIn f (flat_ends (hierarchy_of s) y)
      → length y.path + 1 ≤ 16
  below_composition y i f there =
      let h = hierarchy_of s in
      let e = from_filter_map (λ (e : End). option_map (flat_end h y.path e) (joined_by h y.inside e)) f y.wire.1.ends there in
      let r = map_some (flat_end h y.path e.0) (joined_by h y.inside e.0) f e.2 in
      let n = place_of e.0 y.wire.1.ends e.1 in
      let j = joined s sound y n.0 e.0 r.0 i n.1 r.1 in
      let w = j.0 in
      let short = leaf_short (record { path = y.path ++ r.0.path; part = r.0.part }) j.1 in
      let more = longer (y.path ++ r.0.path) y.path w.rest w.part w.path in
      omega (arith, short, more)

  connection_path : AreDotted (hierarchy_of s) → first_type_fault s ≡ None → (k : ℕ) (p : Path)
      → HasPath (flat_of s) (OfConnection k) p → length p ≤ 16
  connection_path dotted types k p h =
      let y = strung_of s k h.0 h.1 in
      let e = some_end s sound dotted types k h.0 h.1 From in
      let there : IsIn e.1 (flat_ends (hierarchy_of s) y.0) = search (rules, in_place) in
      let below = below_composition y.0 y.1 e.1 there in
      let more = one_more p y.0.path y.0.wire.1.id.name (sym (ap (λ (z : FlatConnection). z.path) y.2 ∙ h.3)) in
      omega (arith, below, more)

pub paths_short : (s : Source) → AreNamesSound s → AreDotted (hierarchy_of s) → first_type_fault s ≡ None
    → first_flat_fault s ≡ None → (x : Owner) (p : Path) → HasPath (flat_of s) x p → length p ≤ 16
paths_short s sound dotted types flat x p h = by_owner x h
  where
    limits : AreInLimits s
    limits = in_limits s sound (no_first (first_size_fault s) (first_join_fault s) flat)

    by_owner : (x : Owner) → HasPath (flat_of s) x p → length p ≤ 16
    by_owner (OfDomain d) h = domain_path s sound limits d p h
    by_owner (OfConnection k) h = connection_path s sound limits dotted types k p h
    by_owner (OfLeaf l) h = device_path s sound limits l p h
