-- The flat system of a source is as the relations of its hierarchy have it.
use Rattle.front_laws.proofs.Common.{AreConnections, AreDomains, AreLeaves, AreNamesSound, Body, Bool, Component, Domain, End, FlatConnection, FlatEnd, Hierarchy, InOrder, IsByHierarchy, IsConnectionBefore, IsDomainBefore, IsDomainOf, IsEndOf, IsIn}
use Rattle.front_laws.proofs.Common.{IsInside, IsLeafOf, IsOnce, IsPathBefore, IsWireOf, Leaf, List, None, Option, Path, Placed, Reached, Some, Source, Strung, [], all_joined, ap, arith, at_place, below, body, bytes_eq-Decides, cond, connections}
use Rattle.front_laws.proofs.Common.{connections_once, connections_stand, domain_found, domain_number, domain_of, domains, domains_are, domains_once, end_numbers_kept, ends_kept, false, flat_connection, flat_domain, flat_end, flat_ends, flat_of}
use Rattle.front_laws.proofs.Common.{from_get_map, from_map, get_map, group_above, hierarchy_of, in_map, in_place, inl, inr, interface_of, is_hardware, is_interface, is_there, joined, joined_by, leaf_number, leaf_number_is, leaves, leaves_of_domain}
use Rattle.front_laws.proofs.Common.{map, member_number, not, not-true, not_from_false, option_map_or, place_by, place_of, refl, rules, subst, suc, sym, top_number, true, true≢false, unwrap_or, zero, ℕ, ◌++◌, ◌<◌, ◌↔◌, ◌∙◌, ◌∷◌, ◌≡◌}
use Rattle.adl_ast.specs.declared.component.Member.TheVariants as members
use Rattle.adl_meaning.specs.Prelude.{leaf_of, slice_get}
use Rattle.adl_hierarchy.specs.Leads.{AreDotted}
use Rattle.adl_hierarchy.proofs.Bodies.{body_number}
use Rattle.adl_hierarchy.proofs.Grouping.{group_is_outermost}
use Rattle.adl_hierarchy.proofs.Leaves.{leaves_stand, paths_are_leaves}
use Rattle.adl_hierarchy.proofs.Once.{leaf_paths_once}
use Rattle.front_laws.proofs.DomainOrder.{IsKeyBefore, domain_leaves_rise, domains_in_order}
use Rattle.front_laws.proofs.LeafOrder.{leaves_in_order, wires_in_order}
use Rattle.front_laws.proofs.Ordered.{order_map, order_weaken}
use Rattle.flat_laws.proofs.Declared.{end_declared}
use Rattle.flat_laws.proofs.EndMembers.{interface_placed, place_by-passes}
use Rattle.flat_laws.proofs.FlatLeaves.{leaf_component}

-- ---- the domain of a path

pub is_domain_of : (h : Hierarchy) (p d : Path) → domain_of h p ≡ d → IsDomainOf h p d
is_domain_of h p d e = by_group (group_above h (top_number h) p) refl e
  where
    by_group : (o : Option Path) → group_above h (top_number h) p ≡ o → unwrap_or o p ≡ d → IsDomainOf h p d
    by_group None g e = inr (λ x o. let k = (group_is_outermost h (top_number h) p x).1 o in cc, sym e)
    by_group (Some q) g e = inl ((group_is_outermost h (top_number h) p d).0 (g ∙ ap Some e))

pub domain_of_is : (h : Hierarchy) (p d : Path) → IsDomainOf h p d → domain_of h p ≡ d
domain_of_is h p d (inl o) = ap (λ z. unwrap_or z p) ((group_is_outermost h (top_number h) p d).1 o)
domain_of_is h p d (inr x) = by_group (group_above h (top_number h) p) refl
  where
    by_group : (o : Option Path) → group_above h (top_number h) p ≡ o → unwrap_or (group_above h (top_number h) p) p ≡ d
    by_group None g = ap (λ z. unwrap_or z p) g ∙ sym x.1
    by_group (Some q) g = absurd (x.0 q ((group_is_outermost h (top_number h) p q).0 g))

-- ---- leaves

leaf_paths : (h : Hierarchy) (xs : List Placed) → map (λ (l : Leaf). l.path) (map (leaf_of h) xs) ≡ map (λ x. x.path) xs
leaf_paths h [] = refl
leaf_paths h (x ∷ xs) = ap (λ z. x.path ∷ z) (leaf_paths h xs)

a_leaf : (s : Source) → AreNamesSound s → (x : Placed) → IsIn x (leaves (hierarchy_of s))
    → IsLeafOf (hierarchy_of s) (flat_of s) (leaf_of (hierarchy_of s) x)
a_leaf s sound x i =
    let h = hierarchy_of s in let stands = (leaves_stand s sound x).0 i in
    let c = leaf_component s sound x i in
    let item : (body h x.part.kind).item ≡ Some c.0.0 = ap (λ (b : Body). b.item) (body_number s x.part.kind c.0 c.1) in
    let d = domain_of h x.path in
    record {
      part = x.part;
      stands = stands.0;
      plain = stands.1;
      component = item ∙ ap Some (sym (ap (λ o. unwrap_or o (record { file = 0; item = 0 })) item));
      place = refl;
      hardware = refl;
      device = λ e. ap (λ b. cond b None (Some (domain_number h d))) e;
      domain = λ e. (
        domain_number h d,
        d,
        ap (λ b. cond b None (Some (domain_number h d))) e,
        is_domain_of h x.path d refl,
        record {
          domain = flat_domain h d;
          there = get_map (flat_domain h) (domains h) (domain_number h d) d
              (domain_found h d ((domains_are h d).1 (x, i, e, refl)));
          path = refl;
        },
      );
    }

are_leaves : (s : Source) → AreNamesSound s → AreLeaves (hierarchy_of s) (flat_of s)
are_leaves s sound =
    let h = hierarchy_of s in let same = leaf_paths h (leaves h) in
    let P : List Path → Type 0 = λ ps. IsOnce ps in
    record {
      paths = λ p. let Q : List Path → Type 0 = λ ps. IsIn p ps in
          (λ i. (paths_are_leaves s sound p).0 (subst Q same i), λ l. subst Q (sym same) ((paths_are_leaves s sound p).1 l));
      once = subst P (sym same) (leaf_paths_once s sound);
      order = order_map (λ (l m : Leaf). IsPathBefore h (top_number h) l.path m.path) (leaf_of h) (leaves h)
          (leaves_in_order s sound);
      each = λ l i.
          let x = from_map (leaf_of h) l (leaves h) i in
          subst (λ z. IsLeafOf h (flat_of s) z) x.2 (a_leaf s sound x.0 x.1);
    }

-- ---- domains

domain_paths : (h : Hierarchy) (ds : List Path) → map (λ (x : Domain). x.path) (map (flat_domain h) ds) ≡ ds
domain_paths h [] = refl
domain_paths h (d ∷ ds) = ap (λ z. d ∷ z) (domain_paths h ds)

-- a leaf of the walk that has the domain, as a leaf of the flat system
inside_from : (s : Source) (d : Path) (n : ℕ) (x : Placed) → slice_get (leaves (hierarchy_of s)) n ≡ Some x
    → is_hardware (hierarchy_of s) x.part ≡ false → domain_of (hierarchy_of s) x.path ≡ d
    → IsInside (hierarchy_of s) (flat_of s) d n
inside_from s d n x g w e =
    let h = hierarchy_of s in
    record { leaf = leaf_of h x; there = get_map (leaf_of h) (leaves h) n x g; software = w; domain = is_domain_of h x.path d e }

from_inside : (s : Source) (d : Path) (n : ℕ) → IsInside (hierarchy_of s) (flat_of s) d n
    → (x : Placed) × (slice_get (leaves (hierarchy_of s)) n ≡ Some x) × (is_hardware (hierarchy_of s) x.part ≡ false)
    × (domain_of (hierarchy_of s) x.path ≡ d)
from_inside s d n k =
    let h = hierarchy_of s in let x = from_get_map (leaf_of h) (leaves h) n k.leaf k.there in
    let P : Leaf → Type 0 = λ l. IsDomainOf h l.path d in
    (x.0, x.1, ap (λ (l : Leaf). l.hardware) x.2 ∙ k.software, domain_of_is h x.0.path d (subst P (sym x.2) k.domain))

are_domains : (s : Source) → AreNamesSound s → AreDomains (hierarchy_of s) (flat_of s)
are_domains s sound =
    let h = hierarchy_of s in let same = domain_paths h (domains h) in
    let P : List Path → Type 0 = λ ps. IsOnce ps in
    record {
      paths = λ d. let Q : List Path → Type 0 = λ ps. IsIn d ps in (
        λ i.
            let x = (domains_are h d).0 (subst Q same i) in let n = place_of x.0 (leaves h) x.1 in
            (n.0, inside_from s d n.0 x.0 n.1 x.2 x.3),
        λ k.
            let x = from_inside s d k.0 k.1 in
            subst Q (sym same) ((domains_are h d).1 (x.0, in_place x.0 (leaves h) k.0 x.1, x.2, x.3)),
      );
      once = subst P (sym same) (domains_once h);
      order = order_map IsDomainBefore (flat_domain h) (domains h)
          (order_weaken (IsKeyBefore (leaves h) (λ x. not (is_hardware h x.part)) (λ x. domain_of h x.path))
          (λ d e. IsDomainBefore (flat_domain h d) (flat_domain h e)) (domains h) (λ d e i j k. before h d e k)
          (domains_in_order h));
      leaves = λ x i n.
          let d = from_map (flat_domain h) x (domains h) i in
          subst (λ (z : Domain). IsIn n z.leaves ↔ IsInside h (flat_of s) z.path n) d.2 (
            λ j. let y = (leaves_of_domain h d.0 n).0 j in inside_from s d.0 n y.0 y.1 y.2 y.3,
            λ k. (leaves_of_domain h d.0 n).1 (from_inside s d.0 n k),
          );
      rising = λ x i.
          let d = from_map (flat_domain h) x (domains h) i in
          subst (λ (z : Domain). InOrder ◌<◌ z.leaves) d.2 (domain_leaves_rise h d.0);
    }
  where
    before : (h : Hierarchy) (d e : Path) → IsKeyBefore (leaves h) (λ x. not (is_hardware h x.part)) (λ x. domain_of h x.path) d e
        → IsDomainBefore (flat_domain h d) (flat_domain h e)
    before h d e k =
        record {
          first = k.first;
          stands = (leaves_of_domain h d k.first).1 (
            k.stands.item,
            k.stands.there,
            not-true (is_hardware h k.stands.item.part) k.stands.passing,
            k.stands.key_is,
          );
          before = λ n i. let y = (leaves_of_domain h e n).0 i in
              k.before n (search (rules, not_from_false));
        }

-- ---- ends

-- what stands in front of that place doesn't
earlier_fails : {X : Type 0} (p : X → Bool) (xs : List X) (k : ℕ) (x : X) → k < place_by p xs → slice_get xs k ≡ Some x
    → p x ≡ false
earlier_fails p [] k x l e = cc
earlier_fails {X} p (y ∷ xs) k x l e = by_test (p y) refl (λ n m. earlier_fails p xs n x m) l e
  where
    by_test : (b : Bool) → p y ≡ b → ((n : ℕ) → n < place_by p xs → slice_get xs n ≡ Some x → p x ≡ false)
        → k < cond b zero (suc (place_by p xs)) → slice_get (y ∷ xs) k ≡ Some x → p x ≡ false
    by_test true t more l e = absurd (omega (arith, l))
    by_test false t more l e = grind (arith)

an_end : (s : Source) → AreNamesSound s → AreDotted (hierarchy_of s) → (x : Strung) → IsIn x (connections (hierarchy_of s))
    → (n : ℕ) (end : End) → slice_get x.wire.1.ends n ≡ Some end
    → (r : Reached) → joined_by (hierarchy_of s) x.inside end ≡ Some r
    → IsEndOf (hierarchy_of s) (flat_of s) x.path x.wire n (flat_end (hierarchy_of s) x.path end r)
an_end s sound dotted x i n end g r j =
    let h = hierarchy_of s in let both = joined s sound x n end r i g j in
    let placed : Placed = record { path = x.path ++ r.path; part = r.part } in
    let a = place_of placed (leaves h) both.1 in
    let number : leaf_number h placed.path ≡ a.0 = leaf_number_is s sound a.0 placed a.1 in
    let d = end_declared s sound dotted x.inside x.wire end r ((connections_stand s sound x).0 i).1
    (in_place end x.wire.1.ends n g) j in
    let own = body_number s r.part.kind d.component d.stands in
    let m = is_there (interface_of d.component.1 r.interface) d.declared in
    let placed_there = interface_placed d.component.1 r.interface m.0 m.1 in
    let member : member_number h r.part r.interface ≡ place_by (is_interface r.interface) d.component.1.members =
    ap (λ (b : Body). option_map_or (λ (c : Component). place_by (is_interface r.interface) c.members) b.component 0) own in
    record {
      end = end;
      numbered = g;
      place = refl;
      leaf = leaf_of h placed;
      there = get_map (leaf_of h) (leaves h) (leaf_number h placed.path) placed (ap (slice_get (leaves h)) number ∙ a.1);
      interface = r.interface;
      joins = both.0;
      part = r.part;
      stands = ((leaves_stand s sound placed).0 both.1).0;
      component = d.component.1;
      of_leaf = ap (λ (b : Body). b.component) own;
      member = m.0;
      named = search (rules, bytes_eq-Decides, place_by-passes);
      placed = ap (slice_get d.component.1.members) member ∙ placed_there;
      first = search (rules, earlier_fails, bytes_eq-Decides);
    }

-- ---- connections

a_wire : (s : Source) → AreNamesSound s → AreDotted (hierarchy_of s) → (x : Strung) → IsIn x (connections (hierarchy_of s))
    → IsWireOf (hierarchy_of s) (flat_of s) (flat_connection (hierarchy_of s) x) x.path x.wire
a_wire s sound dotted x i =
    let h = hierarchy_of s in let stands = (connections_stand s sound x).0 i in
    record {
      inside = x.inside;
      there = stands.0;
      stands = stands.1;
      path = refl;
      connector = refl;
      place = refl;
      as_many = ends_kept s sound dotted x i;
      ends = λ n e g. end_at n e g;
    }
  where
    end_at : (n : ℕ) (e : FlatEnd) → slice_get (flat_ends (hierarchy_of s) x) n ≡ Some e
        → IsEndOf (hierarchy_of s) (flat_of s) x.path x.wire n e
    end_at n e g =
        let h = hierarchy_of s in
        let end = at_place x.wire.1.ends n (omega (arith, ends_kept s sound dotted x i, below (flat_ends h x) n e g)) in
        let r = all_joined s sound dotted x end.0 i (in_place end.0 x.wire.1.ends n end.1) in
        let there = end_numbers_kept s sound dotted x n end.0 r.0 i end.1 r.1 in
        let same : flat_end h x.path end.0 r.0 ≡ e = cc in
        subst (λ z. IsEndOf h (flat_of s) x.path x.wire n z) same (an_end s sound dotted x i n end.0 end.1 r.0 r.1)

connection_paths : (h : Hierarchy) (xs : List Strung) → map (λ (c : FlatConnection). c.path) (map (flat_connection h) xs) ≡ map
    (λ x. x.path ++ x.wire.1.id.name ∷ []) xs
connection_paths h [] = refl
connection_paths h (x ∷ xs) = ap (λ z. (x.path ++ x.wire.1.id.name ∷ []) ∷ z) (connection_paths h xs)

are_connections : (s : Source) → AreNamesSound s → AreDotted (hierarchy_of s) → AreConnections (hierarchy_of s) (flat_of s)
are_connections s sound dotted =
    let h = hierarchy_of s in
    record {
      each = search (rules, from_map, a_wire);
      all = λ q k w e i.
          let x : Strung = record { path = q; inside = k; wire = w } in
          let there = (connections_stand s sound x).1 (e, i) in
          (flat_connection h x, in_map (flat_connection h) x (connections h) there, a_wire s sound dotted x there);
      once = subst (λ ps. IsOnce ps) (sym (connection_paths h (connections h))) (connections_once s sound);
      order = order_map (IsConnectionBefore h) (flat_connection h) (connections h)
          (order_weaken _ (λ x y. IsConnectionBefore h (flat_connection h x) (flat_connection h y)) (connections h)
          (λ x y i j r. record {
            path = x.path;
            name = x.wire.1.id.name;
            first = refl;
            other_path = y.path;
            other_name = y.wire.1.id.name;
            second = refl;
            before = r;
          }) (wires_in_order s sound));
    }

pub by_hierarchy : (s : Source) → AreNamesSound s → AreDotted (hierarchy_of s) → IsByHierarchy (hierarchy_of s) (flat_of s)
by_hierarchy s sound dotted = search (rules, are_leaves, are_domains, are_connections)
