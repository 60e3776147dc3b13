-- No two labels of a source in which no fault of names stands have one path. The last name of a label's path is that of an
-- instance, of a group or of a connection of one composition, and these differ in name.
use Rattle.std.proofs.Common.{rules}
use Rattle.assigned_laws.proofs.Common.{AreNamesSound, ArePathsApart, Bool, Composition, Connection, Domain, FlatConnection, HasPath, Held, Hierarchy, Id, Instance, IsIn, Leaf, Line, List, Name, None, OfConnection, OfDomain, OfLeaf, Option, Owner}
use Rattle.assigned_laws.proofs.Common.{Part, Path, Placed, Some, Source, Strung, [], a_group, an_instance, ap, as_connection, as_held, at, body, bytes_eq, cond, connections, connections_once, connections_stand, domain_number, domain_number_is}
use Rattle.assigned_laws.proofs.Common.{domain_of, domains, domains_are, false, filter_map, find, flat_connection, flat_domain, flat_map, flat_of, from_filter_map, from_flat_map, from_get_map, group_above, held_by, held_in, hierarchy_of}
use Rattle.assigned_laws.proofs.Common.{in_flat_map, in_get, in_map, inl, inr, instances_by, is_hardware, kind_named, last_of, leaf_number, leaf_number_is, leaf_of, leaves, leaves_stand, map_some, member_of, name_of, named_in, option_and_then}
use Rattle.assigned_laws.proofs.Common.{option_and_then_some, part_named, part_of, part_of_body, parts_by, parts_in, parts_of, place_by, place_of, refl, same_Some, same_path, same_path-Decides, slice_get, snoc_same, subst, sym, top_number, true}
use Rattle.assigned_laws.proofs.Common.{true≢false, unwrap_or, ℕ, ◌++◌, ◌∙◌, ◌∷◌, ◌≡◌}
use Rattle.adl_ast.specs.declared.composition.Line.TheVariants as lines
use Rattle.adl_hierarchy.specs.PartAt.{part_at}
use Rattle.adl_hierarchy.proofs.Grouping.{above_outermost}
use Rattle.adl_hierarchy.proofs.Leading.{own_connection}
use Rattle.adl_hierarchy.proofs.PartNames.{held_name, held_once, no_duplicates}
use Rattle.adl_hierarchy.proofs.Places.{place_is}
use Rattle.adl_hierarchy.proofs.Repeats.{find_once}
use Rattle.adl_meaning.specs.Holding.{a_connection as held_connection}

-- ---- lists

not_last : {X : Type 0} (x y : X) (xs : List X) → ◌≡◌ {A = List X} [] (xs ++ y ∷ []) → ⊥
not_last x y [] e = cc
not_last x y (z ∷ xs) e = cc

-- ---- what a composition holds

pub held_instance : (i : Instance) (ls : List Line) → IsIn i (flat_map instances_by ls) → IsIn (as_held i) (flat_map held_by ls)
held_instance i ls m =
    let l = from_flat_map instances_by i ls m in
    in_flat_map held_by l.0 (as_held i) ls l.1 (by_line l.0 l.2) where
      by_line : (l : Line) → IsIn i (instances_by l) → IsIn (as_held i) (held_by l)
      by_line (lines.Instance j) (inl e) = inl (ap as_held e)
      by_line (lines.Instance j) (inr m) = absurd m
      by_line (lines.Group g) m = inr (in_map as_held i g.instances m)
      by_line _ m = absurd m

-- a group of an instance
record GroupIn (ls : List Line) (name : Name) : Type 0 where
  id : Id
  members : Name → Option Instance
  stands : IsIn (id, a_group members) (flat_map held_by ls)
  named : id.name ≡ name

held_group : (numbers : Name → Option ℕ) (ls : List Line) (x : Part) (g : Name) → IsIn x (flat_map (parts_by numbers) ls)
    → x.group ≡ Some g → GroupIn ls g
held_group numbers ls x g m e =
    let l = from_flat_map (parts_by numbers) x ls m in
    by_line l.0 l.1 l.2 where
      grouped : (o : Option Name) (is : List Instance) → IsIn x (filter_map (part_of numbers o) is) → x.group ≡ o
      grouped o is m = search (rules, from_filter_map, map_some)

      by_line : (l : Line) → IsIn l ls → IsIn x (parts_by numbers l) → GroupIn ls g
      by_line (lines.Instance i) there m = absurd (let w = sym (grouped None (i ∷ []) m) ∙ e in cc)
      by_line (lines.Group h) there m =
          let w : Some h.id.name ≡ Some g = sym (grouped (Some h.id.name) h.instances m) ∙ e in
          record {
            id = h.id;
            members = member_of h;
            stands = in_flat_map held_by (lines.Group h) (h.id, a_group (member_of h)) ls
                there (inl refl);
            named = cc;
          }
      by_line _ there m = absurd m

held_wire : (k : Connection) (ls : List Line) → IsIn k (filter_map as_connection ls)
    → IsIn (k.id, held_connection) (flat_map held_by ls)
held_wire k ls m =
    let l = from_filter_map as_connection k ls m in
    in_flat_map held_by l.0 (k.id, held_connection) ls l.1 (by_line l.0 l.2) where
      by_line : (l : Line) → as_connection l ≡ Some k → IsIn (k.id, held_connection) (held_by l)
      by_line (lines.Connection j) e = let same : j ≡ k = cc in
          inl (ap (λ (z : Connection). let held : Id × Held = (z.id, held_connection) in held) same)
      by_line _ e = absurd cc

-- ---- the last name of a path

-- body k holds this under the name
pub record HoldsIn (s : Source) (k : ℕ) (name : Name) (held : Held) : Type 0 where
  pub composition : Composition
  pub composed : (body (hierarchy_of s) k).composition ≡ Some composition
  pub id : Id
  pub stands : IsIn (id, held) (held_in composition)
  pub named : id.name ≡ name

pub record Ends (s : Source) (p : Path) (held : Held) : Type 0 where
  pub above : Path
  pub name : Name
  pub path : p ≡ above ++ name ∷ []
  pub kind : ℕ
  pub there : at (hierarchy_of s) (top_number (hierarchy_of s)) above ≡ Some kind
  pub holds : HoldsIn s kind name held

one_held : (s : Source) → AreNamesSound s → (k : ℕ) (n : Name) (a b : Held) → HoldsIn s k n a → HoldsIn s k n b → a ≡ b
one_held s sound k n a b x y =
    let both : Some x.composition ≡ Some y.composition = sym x.composed ∙ y.composed in
    let same : x.composition ≡ y.composition = cc in
    let once = held_once x.composition (no_duplicates s sound k x.composition x.composed) in
    let there : IsIn (y.id, b) (held_in x.composition) = subst (λ z. IsIn (y.id, b) (held_in z)) (sym same) y.stands in
    let e = find_once held_name (held_in x.composition) (x.id, a) once x.stands in
    let f = find_once held_name (held_in x.composition) (y.id, b) once there in
    let names : x.id.name ≡ y.id.name = x.named ∙ sym y.named in
    let F : Name → Option (Id × Held) = λ n. find (λ h. bytes_eq n (held_name h)) (held_in x.composition) in
    ap (λ (z : Id × Held). z.1) (same_Some (x.id, a) (y.id, b) (sym e ∙ ap F names ∙ f))

same_held : (s : Source) → AreNamesSound s → (p : Path) (a b : Held) → Ends s p a → Ends s p b → a ≡ b
same_held s sound p a b x y =
    let h = hierarchy_of s in let last = snoc_same x.above y.above x.name y.name (sym x.path ∙ y.path) in
    let both : Some x.kind ≡ Some y.kind = sym x.there ∙ ap (at h (top_number h)) last.0 ∙ y.there in
    let kind : x.kind ≡ y.kind = cc in
    one_held s sound y.kind y.name a b (subst (λ k. HoldsIn s k y.name a) kind (subst (λ n. HoldsIn s x.kind n a) last.1 x.holds))
    y.holds

-- the body of the last instance on a path
split_last : (h : Hierarchy) (k : ℕ) (q : Path) (n : Name) (x : Part) → part_at h k (q ++ n ∷ []) ≡ Some x
    → (m : ℕ) × (at h k q ≡ Some m) × (part_named (body h m).parts n ≡ Some x)
split_last h k [] n x e = (k, refl, e)
split_last h k (a ∷ []) n x e = search (rules, option_and_then_some)
split_last h k (a ∷ b ∷ q) n x e =
    option_and_then_some (λ (y : Part). part_at h y.kind (b ∷ q ++ n ∷ [])) (part_named (body h k).parts a) x e (λ y e1 e2.
    let r = split_last h y.kind (b ∷ q) n x e2 in
    (r.0, ap (option_and_then (λ (z : Part). at h z.kind (b ∷ q))) e1 ∙ r.1, r.2))

module _ (s : Source) (sound : AreNamesSound s) where
  instance_ends : (q : Path) (n : Name) (x : Part) → part_at (hierarchy_of s) (top_number (hierarchy_of s)) (q ++ n ∷ []) ≡ Some x
      → Ends s (q ++ n ∷ []) (an_instance x.instance)
  instance_ends q n x e =
      let h = hierarchy_of s in let r = split_last h (top_number h) q n x e in
      let i = named_in (body h r.0).parts n x r.2 in let p = part_of_body s r.0 x i.0 in
      record {
        above = q;
        name = n;
        path = refl;
        kind = r.0;
        there = r.1;
        holds = search (rules, held_instance);
      }

  group_ends : (q : Path) (n g : Name) (x : Part) → part_at (hierarchy_of s) (top_number (hierarchy_of s)) (q ++ n ∷ []) ≡ Some x
      → x.group ≡ Some g → (f : Name → Option Instance) × Ends s (q ++ g ∷ []) (a_group f)
  group_ends q n g x e grouped =
      let h = hierarchy_of s in let r = split_last h (top_number h) q n x e in
      let i = named_in (body h r.0).parts n x r.2 in let p = part_of_body s r.0 x i.0 in
      let parts : IsIn x (parts_in (kind_named s) (body h r.0).composition) = subst (λ xs. IsIn x xs) (parts_of s r.0) i.0 in
      let inside : IsIn x (flat_map (parts_by (kind_named s)) p.composition.lines) = search (rules) in
      let w = held_group (kind_named s) p.composition.lines x g inside grouped in (
        w.members,
        record {
          above = q;
          name = g;
          path = refl;
          kind = r.0;
          there = r.1;
          holds = search (rules);
        },
      )

  leaf_ends : (x : Placed) → IsIn x (leaves (hierarchy_of s)) → (i : Instance) × Ends s x.path (an_instance i)
  leaf_ends x i =
      let h = hierarchy_of s in let stands = ((leaves_stand s sound x).0 i).0 in
      let q = last_of h (top_number h) x.path x.part stands in (
        x.part.instance,
        subst (λ p. Ends s p (an_instance x.part.instance)) (sym q.1) (instance_ends q.0 (name_of x.part) x.part
            (ap (part_at h (top_number h)) (sym q.1) ∙ stands)),
      )

  connection_ends : (y : Strung) → IsIn y (connections (hierarchy_of s))
      → Ends s (y.path ++ y.wire.1.id.name ∷ []) held_connection
  connection_ends y i =
      let h = hierarchy_of s in let stands = (connections_stand s sound y).0 i in
      let own = own_connection (body h y.inside).composition y.wire stands.1 in
      record {
        above = y.path;
        name = y.wire.1.id.name;
        path = refl;
        kind = y.inside;
        there = stands.0;
        holds = search (rules, held_wire);
      }

  -- a domain's path is that of a leaf that is no device, or of a group
  data DomainPath (p : Path) : Type 0 where
    own_leaf : (x : Placed) → IsIn x (leaves (hierarchy_of s)) → is_hardware (hierarchy_of s) x.part ≡ false → x.path ≡ p
        → DomainPath p
    of_group : (f : Name → Option Instance) → Ends s p (a_group f) → DomainPath p

  of_domain : (p : Path) → IsIn p (domains (hierarchy_of s)) → DomainPath p
  of_domain p i =
      let h = hierarchy_of s in let w = (domains_are h p).0 i in
      go w.0 (group_above h (top_number h) w.0.path) refl w.1 w.2 w.3 where
        go : (x : Placed) (o : Option Path) → group_above (hierarchy_of s) (top_number (hierarchy_of s)) x.path ≡ o
            → IsIn x (leaves (hierarchy_of s)) → is_hardware (hierarchy_of s) x.part ≡ false
            → domain_of (hierarchy_of s) x.path ≡ p
            → DomainPath p
        go x None above i soft is = own_leaf x i soft (sym (ap (λ o. unwrap_or o x.path) above) ∙ is)
        go x (Some d) above i soft is =
            let h = hierarchy_of s in let o = above_outermost h (top_number h) x.path d above in
            let same : d ≡ p = sym (ap (λ o. unwrap_or o x.path) above) ∙ is in
            let w = group_ends o.above o.name o.group o.part o.stands o.grouped in
            of_group w.0 (subst (λ z. Ends s z (a_group w.0)) (sym o.path ∙ same) w.1)

  -- ---- no two labels have one path

  domain_path : (d : ℕ) (p : Path) → HasPath (flat_of s) (OfDomain d) p → slice_get (domains (hierarchy_of s)) d ≡ Some p
  domain_path d p h = search (rules, from_get_map)

  device_path : (l : ℕ) (p : Path) → HasPath (flat_of s) (OfLeaf l) p
      → (x : Placed) × (slice_get (leaves (hierarchy_of s)) l ≡ Some x) × (x.path ≡ p)
      × (is_hardware (hierarchy_of s) x.part ≡ true)
  device_path l p h = search (rules, from_get_map)

  connection_path_of : (k : ℕ) (p : Path) → HasPath (flat_of s) (OfConnection k) p
      → (y : Strung) × (slice_get (connections (hierarchy_of s)) k ≡ Some y) × (y.path ++ y.wire.1.id.name ∷ [] ≡ p)
  connection_path_of k p h = search (rules, from_get_map)

  domain_ends : (d : ℕ) (p : Path) → HasPath (flat_of s) (OfDomain d) p → DomainPath p
  domain_ends d p h = of_domain p (in_get (domains (hierarchy_of s)) d p (domain_path d p h))

  connection_held : (k : ℕ) (p : Path) → HasPath (flat_of s) (OfConnection k) p → Ends s p held_connection
  connection_held k p h =
      let w = connection_path_of k p h in
      subst (λ z. Ends s z held_connection) w.2 (connection_ends w.0 (in_get (connections (hierarchy_of s)) k w.0 w.1))

  no_domain_connection : (d k : ℕ) (p : Path) → HasPath (flat_of s) (OfDomain d) p → HasPath (flat_of s) (OfConnection k) p → ⊥
  no_domain_connection d k p h g = by_case (domain_ends d p h) where
    by_case : DomainPath p → ⊥
    by_case (own_leaf x i soft e) =
        let w = leaf_ends x i in
        let same = same_held s sound p (an_instance w.0) held_connection (subst (λ z. Ends s z (an_instance w.0)) e w.1)
        (connection_held k p g) in
        cc
    by_case (of_group f e) = let same = same_held s sound p (a_group f) held_connection e (connection_held k p g) in cc

  no_device_connection : (l k : ℕ) (p : Path) → HasPath (flat_of s) (OfLeaf l) p → HasPath (flat_of s) (OfConnection k) p → ⊥
  no_device_connection l k p h g =
      let x = device_path l p h in let w = leaf_ends x.0 (in_get (leaves (hierarchy_of s)) l x.0 x.1) in
      let same = same_held s sound p (an_instance w.0) held_connection (subst (λ z. Ends s z (an_instance w.0)) x.2 w.1)
      (connection_held k p g) in
      cc

  no_domain_device : (d l : ℕ) (p : Path) → HasPath (flat_of s) (OfDomain d) p → HasPath (flat_of s) (OfLeaf l) p → ⊥
  no_domain_device d l p h g = by_case (domain_ends d p h) (device_path l p g) where
    by_case : DomainPath p → (x : Placed) × (slice_get (leaves (hierarchy_of s)) l ≡ Some x) × (x.path ≡ p)
        × (is_hardware (hierarchy_of s) x.part ≡ true) → ⊥
    by_case (own_leaf y i soft e) x =
        let k = hierarchy_of s in let n = place_of y (leaves k) i in
        let a = leaf_number_is s sound n.0 y n.1 in let b = leaf_number_is s sound l x.0 x.1 in
        let number : n.0 ≡ l = sym a ∙ ap (leaf_number k) (e ∙ sym x.2) ∙ b in
        let both : Some y ≡ Some x.0 = sym n.1 ∙ ap (slice_get (leaves k)) number ∙ x.1 in
        let same : y ≡ x.0 = cc in
        true≢false (sym x.3 ∙ ap (λ (z : Placed). is_hardware k z.part) (sym same) ∙ soft)
    by_case (of_group f e) x =
        let w = leaf_ends x.0 (in_get (leaves (hierarchy_of s)) l x.0 x.1) in
        let same = same_held s sound p (a_group f) (an_instance w.0) e (subst (λ z. Ends s z (an_instance w.0)) x.2 w.1) in
        cc

  -- a label's path has a last name, which a composition holds
  pub label_ends : (x : Owner) (p : Path) → HasPath (flat_of s) x p → (held : Held) × Ends s p held
  label_ends (OfDomain d) p h = by_case (domain_ends d p h) where
    by_case : DomainPath p → (held : Held) × Ends s p held
    by_case (own_leaf x i soft e) = let w = leaf_ends x i in (an_instance w.0, subst (λ z. Ends s z (an_instance w.0)) e w.1)
    by_case (of_group f e) = (a_group f, e)
  label_ends (OfConnection k) p h = (held_connection, connection_held k p h)
  label_ends (OfLeaf l) p h =
      let x = device_path l p h in let w = leaf_ends x.0 (in_get (leaves (hierarchy_of s)) l x.0 x.1) in
      (an_instance w.0, subst (λ z. Ends s z (an_instance w.0)) x.2 w.1)

  pub not_empty : (x : Owner) (p : Path) → HasPath (flat_of s) x p → p ≡ [] → ⊥
  not_empty x p h none = let w = (label_ends x p h).1 in not_last w.name w.name w.above (sym none ∙ w.path)

  pub paths_apart : ArePathsApart (flat_of s)
  paths_apart (OfDomain d) (OfDomain e) p h g =
      let k = hierarchy_of s in
      ap OfDomain (sym (domain_number_is k d p (domain_path d p h)) ∙ domain_number_is k e p (domain_path e p g))
  paths_apart (OfLeaf l) (OfLeaf m) p h g =
      let k = hierarchy_of s in let x = device_path l p h in
      let y = device_path m p g in
      ap OfLeaf (sym (leaf_number_is s sound l x.0 x.1) ∙ ap (leaf_number k) (x.2 ∙ sym y.2) ∙ leaf_number_is s sound m y.0 y.1)
  paths_apart (OfConnection j) (OfConnection k) p h g =
      let c = hierarchy_of s in let x = connection_path_of j p h in
      let y = connection_path_of k p g in
      let F : Strung → Path = λ z. z.path ++ z.wire.1.id.name ∷ [] in
      let once = connections_once s sound in
      ap OfConnection (sym (place_is same_path same_path-Decides F (connections c) j x.0 once x.1)
      ∙ ap (λ (q : Path). place_by (λ (z : Strung). same_path q (F z)) (connections c)) (x.2 ∙ sym y.2)
      ∙ place_is same_path same_path-Decides F (connections c) k y.0 once y.1)
  paths_apart (OfDomain d) (OfConnection k) p h g = absurd (no_domain_connection d k p h g)
  paths_apart (OfConnection k) (OfDomain d) p h g = absurd (no_domain_connection d k p g h)
  paths_apart (OfDomain d) (OfLeaf l) p h g = absurd (no_domain_device d l p h g)
  paths_apart (OfLeaf l) (OfDomain d) p h g = absurd (no_domain_device d l p g h)
  paths_apart (OfLeaf l) (OfConnection k) p h g = absurd (no_device_connection l k p h g)
  paths_apart (OfConnection k) (OfLeaf l) p h g = absurd (no_device_connection l k p g h)
