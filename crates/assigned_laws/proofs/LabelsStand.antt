-- Who has a label by the hierarchy has a number, and the other way round.
use Rattle.std.proofs.Common.{rules}
use Rattle.assigned_laws.proofs.Common.{AreNamesSound, Bool, Domain, FlatConnection, HasLabel, HasPath, IsIn, IsLabelText, IsLeaf, IsNamed, LabelNumbers, Leaf, List, None, OfConnection, OfDomain, OfLeaf, Owner, Path, Placed, Some, Source, Strung}
use Rattle.assigned_laws.proofs.Common.{Tables, ap, cond, connection_label, connections, connections_stand, domain_number, domain_of, domains, domains_are, false, flat_connection, flat_domain, flat_of, from_get_map, from_map, has_label, hierarchy_of}
use Rattle.assigned_laws.proofs.Common.{in_get, in_map, inl, inr, is_hardware, label_lines, label_numbers, leaf_label, leaf_of, leaves, owner, paths_are_leaves, place_of, refl, settled_of, slice_get, subst, sym, tables_of, tables_with, top_number}
use Rattle.assigned_laws.proofs.Common.{true, ℕ, ◌↔◌, ◌∙◌, ◌≡◌}
use Rattle.assigned_laws.proofs.Naming.{connection_named, device_is, leaf_named}
use Rattle.assigned_laws.proofs.Ranked.{called_line, line_called}

module _ (s : Source) (sound : AreNamesSound s) where
  -- ---- of leaves

  leaf_at : (leaf : Path) → IsLeaf (hierarchy_of s) (top_number (hierarchy_of s)) leaf
      → (x : Placed) × (n : ℕ) × (slice_get (leaves (hierarchy_of s)) n ≡ Some x) × (x.path ≡ leaf)
  leaf_at leaf is =
      let h = hierarchy_of s in
      let g = from_map (λ (x : Placed). x.path) leaf (leaves h) ((paths_are_leaves s sound leaf).1 is) in
      let n = place_of g.0 (leaves h) g.1 in
      (g.0, n.0, n.1, g.2)

  at_leaf : (x : Placed) (n : ℕ) → slice_get (leaves (hierarchy_of s)) n ≡ Some x
      → IsLeaf (hierarchy_of s) (top_number (hierarchy_of s)) x.path
  at_leaf x n e = let h = hierarchy_of s in
      (paths_are_leaves s sound x.path).0 (in_map (λ (x : Placed). x.path) x (leaves h) (in_get (leaves h) n x e))

  -- whose a leaf is, by whether it is a device
  owner_is : (numbers : LabelNumbers) (x : Placed) (n : ℕ) (b : Bool) → slice_get (leaves (hierarchy_of s)) n ≡ Some x
      → is_hardware (hierarchy_of s) x.part ≡ b
      → owner (hierarchy_of s) x.path ≡ cond b x.path (domain_of (hierarchy_of s) x.path)
  owner_is numbers x n b e hard = let h = hierarchy_of s in
      ap (λ b. cond b x.path (domain_of h x.path)) (device_is s numbers sound x n e ∙ hard)

  hardware_of : (x : Placed) → (leaf_of (hierarchy_of s) x).domain ≡ None → is_hardware (hierarchy_of s) x.part ≡ true
  hardware_of x e = search (rules)

  -- ---- by numbers

  labelled : (numbers : LabelNumbers) (p : Path) → HasLabel (hierarchy_of s) p → (l : ℕ) × IsNamed (tables_with s numbers) l p
  labelled numbers p (inl (leaf, is, e)) =
      let h = hierarchy_of s in let t = tables_with s numbers in
      let x = leaf_at leaf is in
      let same : owner h x.0.path ≡ p = ap (owner h) x.3 ∙ sym e in
      (leaf_label t x.1, subst (IsNamed t (leaf_label t x.1)) same (leaf_named s numbers sound x.0 x.1 x.2))
  labelled numbers p (inr j) =
      let h = hierarchy_of s in let t = tables_with s numbers in
      let y : Strung = record { path = j.composition; inside = j.inside; wire = j.connection } in
      let n = place_of y (connections h) ((connections_stand s sound y).1 (j.there, j.stands)) in (
        connection_label t n.0,
        subst (IsNamed t (connection_label t n.0)) (sym j.path_is)
            (connection_named s numbers y n.0 n.1 j.labelled),
      )

  has_of : (numbers : LabelNumbers) (x : Owner) (p : Path) → HasPath (flat_of s) x p → HasLabel (hierarchy_of s) p
  has_of numbers (OfDomain d) p (domain, here, is) =
      let h = hierarchy_of s in let g = from_get_map (flat_domain h) (domains h) d domain here in
      let x = (domains_are h g.0).0 (in_get (domains h) d g.0 g.1) in let n = place_of x.0 (leaves h) x.1 in
      let path : g.0 ≡ p = ap (λ (z : Domain). z.path) g.2 ∙ is in
      inl (x.0.path, at_leaf x.0 n.0 n.1, sym (owner_is numbers x.0 n.0 false n.1 x.2 ∙ x.3 ∙ path))
  has_of numbers (OfConnection k) p (c, here, has, is) =
      let h = hierarchy_of s in let g = from_get_map (flat_connection h) (connections h) k c here in
      let y = (connections_stand s sound g.0).0 (in_get (connections h) k g.0 g.1) in
      search (rules, labelled)
  has_of numbers (OfLeaf l) p (leaf, here, none, is) = search (rules, from_get_map, hardware_of, at_leaf, owner_is)

  -- ---- by texts

  pub label_lines_stand : (text : List ℕ) → ((l : ℕ) × IsIn {X = ℕ × List ℕ} (l, text) (label_lines (flat_of s)))
      ↔ IsLabelText s text
  label_lines_stand text =
      let numbers = label_numbers (flat_of s) in
      let t : Tables = tables_of s (flat_of s) (settled_of s) in (
        λ i.
            let c = line_called t refl i.0 text i.1 in
            (c.0, c.2, has_of numbers c.1.labelled c.0 c.1.there),
        λ h.
            let n = labelled numbers h.0 h.2 in
            (n.0, called_line t refl n.0 text (h.0, n.1, h.1)),
      )
