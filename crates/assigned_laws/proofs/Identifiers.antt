-- Where tokens spell the files of a source, the names of labels' paths are identifiers.
use Rattle.std.proofs.Common.{rules}
use Rattle.assigned_laws.proofs.Common.{AreNamesSound, AreSpelled, Composition, Connection, Group, HasPath, Held, Id, Instance, IsIn, IsOne, Line, Name, Owner, Part, Path, Some, Source, [], a_connection, as_held, at, body}
use Rattle.assigned_laws.proofs.Common.{first_on, flat_of, from_flat_map, from_map, held_by, held_in, hierarchy_of, in_append, inl, inr, is_name, line_spelled, name_of, named_in, one_of, part_of_body, subst, sym, top_number, true, ℕ, ◌∙◌}
use Rattle.assigned_laws.proofs.Common.{◌∷◌, ◌≡◌}
use Rattle.adl_ast.specs.Forms.{word, connection_line, composition_member_line, group_line, instance_form, instance_line}
use Rattle.cam_base.proofs.Naming.{named_is}
use Rattle.adl_ast.specs.declared.composition.Line.TheVariants as lines
use Rattle.assigned_laws.proofs.LabelPaths.{Ends, held_instance, label_ends}

abbrev pub IsIdentifier : Name → Type 0
IsIdentifier n = is_name n ≡ true

-- ---- lines of compositions

word_name : (i : Id) → IsOne word i → IsIdentifier i.name
word_name i w = let p = w.1 in subst (λ (z : Id). IsIdentifier z.name) (sym p.1) (named_is p.0.text)

instance_name : (i : Instance) → IsOne instance_line i → IsIdentifier i.id.name
unfolding instance_line
instance_name i w = let p = w.1 in subst (λ (z : Instance). IsIdentifier z.id.name) (sym p.1)
    (word_name p.0.1.1.0 (p.2.4.4.0, p.2.4.4.3))

connection_name : (k : Connection) → IsOne connection_line k → IsIdentifier k.id.name
unfolding connection_line
connection_name k w = let p = w.1 in subst (λ (z : Connection). IsIdentifier z.id.name) (sym p.1)
    (word_name p.0.1.1.0 (p.2.4.4.0, p.2.4.4.3))

group_name : (g : Group) → IsOne group_line g → IsIdentifier g.id.name
unfolding group_line
group_name g w = let p = w.1 in subst (λ (z : Group). IsIdentifier z.id.name) (sym p.1) (word_name p.0.1.0 (p.2.4.0, p.2.4.3))

group_instance : (g : Group) → IsOne group_line g → (i : Instance) → IsIn i g.instances → IsOne instance_line i
unfolding group_line
group_instance g w i m =
    let p = w.1 in
    one_of instance_form p.0.1.1.1.0 p.2.4.4.4.0 i p.2.4.4.4.3 (subst (λ (z : Group). IsIn i z.instances) p.1 m)

same_name : (x y : Id × Held) → x ≡ y → IsIdentifier x.0.name → IsIdentifier y.0.name
same_name x y e u = subst (λ (z : Id × Held). IsIdentifier z.0.name) e u

line_names : (l : Line) → IsOne composition_member_line l → (x : Id × Held) → IsIn x (held_by l) → IsIdentifier x.0.name
unfolding composition_member_line
line_names l w x m = search (rules, same_name, instance_name, connection_name, group_name, from_map, group_instance)

-- ---- paths

module _ (s : Source) (spelled : AreSpelled s) where
  held_names : (k : ℕ) (c : Composition) → (body (hierarchy_of s) k).composition ≡ Some c → (x : Id × Held) → IsIn x (held_in c)
      → IsIdentifier x.0.name
  held_names k c e x i =
      let l = from_flat_map held_by x c.lines i in
      line_names l.0 (line_spelled s spelled k c e l.0 l.1) x l.2

  part_name : (k : ℕ) (x : Part) → IsIn x (body (hierarchy_of s) k).parts → IsIdentifier (name_of x)
  part_name k x i =
      let p = part_of_body s k x i in
      held_names k p.composition p.composed (as_held x.instance) (held_instance x.instance p.composition.lines p.stands)

  at_names : (k : ℕ) (p : Path) (m : ℕ) → at (hierarchy_of s) k p ≡ Some m → (n : Name) → IsIn n p → IsIdentifier n
  at_names k [] m e n i = absurd i
  at_names k (c ∷ p) m e n (inl same) =
      let y = first_on (hierarchy_of s) k c p m e in
      let there = named_in (body (hierarchy_of s) k).parts c y.0 y.1 in
      subst IsIdentifier (there.1 ∙ same) (part_name k y.0 there.0)
  at_names k (c ∷ p) m e n (inr i) = let y = first_on (hierarchy_of s) k c p m e in at_names y.0.kind p m y.2 n i

  ends_names : (p : Path) (held : Held) → Ends s p held → (n : Name) → IsIn n p → IsIdentifier n
  ends_names p held w n i = elim (in_append n w.above (w.name ∷ []) (subst (λ z. IsIn n z) w.path i)) [
    | inl above ↦ at_names (top_number (hierarchy_of s)) w.above w.kind w.there n above
    | inr (inl same) ↦
        let h = w.holds in
        subst IsIdentifier (h.named ∙ same) (held_names w.kind h.composition h.composed (h.id, held) h.stands)
    | inr (inr none) ↦ absurd none
  ]

  pub identifiers : AreNamesSound s → (x : Owner) (p : Path) → HasPath (flat_of s) x p → (n : Name) → IsIn n p → IsIdentifier n
  identifiers sound x p h = let w = label_ends s sound x p h in ends_names p w.0 w.1
