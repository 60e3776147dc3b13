-- Ends of the flat system are ends of connections by the hierarchy, and the other way round.
use Rattle.std.proofs.Common.{rules}
use Rattle.assigned_laws.proofs.Common.{AreDotted, AreNamesSound, End, EndAt, EndOf, FlatConnection, FlatEnd, IsIn, IsNamed, LabelNumbers, Path, Placed, Reached, Some, Source, Strung, Tables, Wire, ap, at_place, connections, connections_stand}
use Rattle.assigned_laws.proofs.Common.{flat_connection, flat_end, flat_ends, flat_of, from_get_map, get_map, hierarchy_of, in_get, leaf_label, leaf_number, leaf_number_is, leaves, length, owner, place_of, refl, slice_get, slice_get_within, subst}
use Rattle.assigned_laws.proofs.Common.{sym, tables_with, ℕ, ◌++◌, ◌<◌, ◌∙◌, ◌≡◌}
use Rattle.adl_hierarchy.proofs.Joining.{all_joined, end_numbers_kept, ends_kept, joined, joins_joined}
use Rattle.assigned_laws.proofs.Naming.{leaf_named}

module _ (s : Source) (sound : AreNamesSound s) (dotted : AreDotted (hierarchy_of s)) (numbers : LabelNumbers) where
  abbrev t : Tables
  t = tables_with s numbers

  -- an end of the flat system is this one of the connection y of the hierarchy
  pub record Matches (y : Strung) (x : EndAt (flat_of s)) (e : EndOf (hierarchy_of s) y.path y.wire) : Type 0 where
    pub here : slice_get (connections (hierarchy_of s)) x.place ≡ Some y
    pub connection : flat_connection (hierarchy_of s) y ≡ x.connection
    pub number : e.number ≡ x.number
    pub role : e.role ≡ x.end.role
    pub reach : Reached
    pub path : e.leaf ≡ y.path ++ reach.path
    pub interface : e.interface ≡ reach.interface
    pub end : End
    pub flat : flat_end (hierarchy_of s) y.path end reach ≡ x.end
    pub placed : IsIn (record { path = y.path ++ reach.path; part = reach.part }) (leaves (hierarchy_of s))
    pub named : IsNamed t (leaf_label t x.end.leaf) (owner (hierarchy_of s) e.leaf)

  pub strung_at : (k : ℕ) (c : FlatConnection) → slice_get (flat_of s).connections k ≡ Some c
      → (y : Strung) × (slice_get (connections (hierarchy_of s)) k ≡ Some y) × (flat_connection (hierarchy_of s) y ≡ c)
  strung_at k c e = let h = hierarchy_of s in from_get_map (flat_connection h) (connections h) k c e

  -- the label of a leaf at the path that is reached
  reached_named : (q : Path) (r : Reached) → IsIn (record { path = q ++ r.path; part = r.part }) (leaves (hierarchy_of s))
      → IsNamed t (leaf_label t (leaf_number (hierarchy_of s) (q ++ r.path))) (owner (hierarchy_of s) (q ++ r.path))
  reached_named q r i =
      let h = hierarchy_of s in
      let x : Placed = record { path = q ++ r.path; part = r.part } in
      let n = place_of x (leaves h) i in let is = leaf_number_is s sound n.0 x n.1 in
      subst (λ z. IsNamed t (leaf_label t z) (owner h x.path)) (sym is) (leaf_named s numbers sound x n.0 n.1)

  -- from the flat system
  pub met : (x : EndAt (flat_of s)) (y : Strung) → slice_get (connections (hierarchy_of s)) x.place ≡ Some y
      → (e : EndOf (hierarchy_of s) y.path y.wire) × Matches y x e
  met x y here =
      let h = hierarchy_of s in
      let i : IsIn y (connections h) = in_get (connections h) x.place y here in
      let there : slice_get (flat_of s).connections x.place ≡ Some (flat_connection h y) = search (rules, get_map) in
      let both : Some (flat_connection h y) ≡ Some x.connection = sym there ∙ x.here in
      let same : flat_connection h y ≡ x.connection = cc in
      let stands : slice_get (flat_ends h y) x.number ≡ Some x.end = search (rules) in
      let short : x.number < length y.wire.1.ends = search (rules, ends_kept, slice_get_within) in
      let end = at_place y.wire.1.ends x.number short in
      let r = all_joined s sound dotted y end.0 i (in_get y.wire.1.ends x.number end.0 end.1) in
      let flat = end_numbers_kept s sound dotted y x.number end.0 r.0 i end.1 r.1 in
      let ends : Some (flat_end h y.path end.0 r.0) ≡ Some x.end = sym flat ∙ stands in
      let is : flat_end h y.path end.0 r.0 ≡ x.end = cc in
      let j = joined s sound y x.number end.0 r.0 i end.1 r.1 in
      let e : EndOf h y.path y.wire = search (rules) in
      let named = reached_named y.path r.0 j.1 in (
        e,
        record {
          here = here;
          connection = same;
          number = refl;
          role = ap (λ (z : FlatEnd). z.role) is;
          reach = r.0;
          path = refl;
          interface = refl;
          end = end.0;
          flat = is;
          placed = j.1;
          named = subst (λ (z : FlatEnd). IsNamed t (leaf_label t z.leaf) (owner h (y.path ++ r.0.path))) is named;
        },
      )

  -- a connection of the hierarchy that has an end stands in the flat system
  pub strung_here : (q : Path) (w : Wire) (e : EndOf (hierarchy_of s) q w)
      → (k : ℕ) × (inside : ℕ)
      × (slice_get (connections (hierarchy_of s)) k ≡ Some (record { path = q; inside = inside; wire = w }))
  strung_here q w e =
      let h = hierarchy_of s in let j = e.joins in
      let y : Strung = record { path = q; inside = j.inside; wire = w } in
      let n = place_of y (connections h) ((connections_stand s sound y).1 (j.there, j.stands)) in
      (n.0, j.inside, n.1)

  -- from the hierarchy
  pub put : (y : Strung) (k : ℕ) → slice_get (connections (hierarchy_of s)) k ≡ Some y
      → (e : EndOf (hierarchy_of s) y.path y.wire) → (x : EndAt (flat_of s)) × (x.place ≡ k) × Matches y x e
  put y k here e =
      let h = hierarchy_of s in
      let i : IsIn y (connections h) = in_get (connections h) k y here in
      let j = joins_joined s sound y e.number e.role e.leaf e.interface i e.joins in let end = j.0 in
      let r = j.3 in let flat = end_numbers_kept s sound dotted y e.number end r i j.1 j.4 in
      let x : EndAt (flat_of s) = record {
        place = k;
        connection = flat_connection h y;
        here = get_map (flat_connection h) (connections h) k y here;
        number = e.number;
        end = flat_end h y.path end r;
        stands = flat;
      } in
      let leaf = (joined s sound y e.number end r i j.1 j.4).1 in (
        x,
        refl,
        record {
          here = here;
          connection = refl;
          number = refl;
          role = sym j.2;
          reach = r;
          path = sym j.5;
          interface = sym j.6;
          end = end;
          flat = refl;
          placed = leaf;
          named = subst (λ z. IsNamed t (leaf_label t (leaf_number h (y.path ++ r.path))) (owner h z)) j.5
              (reached_named y.path r leaf);
        },
      )
