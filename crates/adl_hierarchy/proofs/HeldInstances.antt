-- What names stand for among what a composition holds: instances of it, each under its own name.
use Rattle.adl_hierarchy.proofs.Common.{Composition, Held, Id, Instance, IsIn, Line, List, Name, Option, Port, Some, [], a_connection, a_group, an_instance, ap, as_held, bytes_eq, bytes_eq-Decides, find, found, from_flat_map, from_map, held_as}
use Rattle.adl_hierarchy.proofs.Common.{held_by, held_in, in_flat_map, inl, inr, instance_held, instances_by, instances_in, map_some, member_held, member_of, port_of, refl, rules, subst, sym, ◌∙◌, ◌∷◌, ◌≡◌}
use Rattle.adl_ast.specs.declared.composition.Line.TheVariants as lines

held_found : (k : Composition) (n : Name) (x : Held) → held_as k n ≡ Some x → (l : Line) × IsIn l k.lines × (h : Id × Held)
    × IsIn h (held_by l) × (h.0.name ≡ n) × (h.1 ≡ x)
held_found k n x e =
    let a = map_some (λ (h : Id × Held). h.1) (find (λ (h : Id × Held). bytes_eq n h.0.name) (held_in k)) x e in
    let b = found (λ (h : Id × Held). bytes_eq n h.0.name) (held_in k) a.0 a.1 in
    let l = from_flat_map held_by a.0 k.lines b.0 in
    (l.0, l.1, a.0, l.2, sym ((bytes_eq-Decides n a.0.0.name).0 b.1), a.2)

held_instance : (l : Line) (h : Id × Held) (i : Instance) → IsIn h (held_by l) → h.1 ≡ an_instance i
    → IsIn i (instances_by l) × (h.0 ≡ i.id)
held_instance (lines.Instance j) h i (inl e) t = search (rules)
held_instance (lines.Instance j) h i (inr m) t = absurd m
held_instance (lines.Group g) h i (inl e) t = let u : a_group (member_of g) ≡ h.1 = ap (λ (z : Id × Held). z.1) e in cc
held_instance (lines.Group g) h i (inr m) t =
    let k = from_map as_held h g.instances m in
    let s : k.0 ≡ i = let u : an_instance k.0 ≡ h.1 = ap (λ (z : Id × Held). z.1) k.2 in cc in
    (subst (λ z. IsIn z g.instances) s k.1, ap (λ (z : Id × Held). z.0) (sym k.2) ∙ ap (λ (z : Instance). z.id) s)
held_instance (lines.Connection k) h i (inl e) t = let u : a_connection ≡ h.1 = ap (λ (z : Id × Held). z.1) e in cc
held_instance (lines.Connection k) h i (inr m) t = absurd m
held_instance (lines.Export x) h i m t = absurd m

held_member : (l : Line) (h : Id × Held) (f : Name → Option Instance) (n : Name) (i : Instance) → IsIn h (held_by l)
    → h.1 ≡ a_group f → f n ≡ Some i → IsIn i (instances_by l) × (i.id.name ≡ n)
held_member (lines.Instance j) h f n i (inl e) t m = let u : an_instance j ≡ h.1 = ap (λ (z : Id × Held). z.1) e in cc
held_member (lines.Instance j) h f n i (inr x) t m = absurd x
held_member (lines.Group g) h f n i (inl e) t m =
    let s : member_of g ≡ f = let u : a_group (member_of g) ≡ h.1 = ap (λ (z : Id × Held). z.1) e in cc in
    let k = found (λ (i : Instance). bytes_eq n i.id.name) g.instances i (ap (λ (z : Name → Option Instance). z n) s ∙ m) in
    (k.0, sym ((bytes_eq-Decides n i.id.name).0 k.1))
held_member (lines.Group g) h f n i (inr x) t m =
    let k = from_map as_held h g.instances x in
    let u : an_instance k.0 ≡ h.1 = ap (λ (z : Id × Held). z.1) k.2 in cc
held_member (lines.Connection k) h f n i (inl e) t m = let u : a_connection ≡ h.1 = ap (λ (z : Id × Held). z.1) e in cc
held_member (lines.Connection k) h f n i (inr x) t m = absurd x
held_member (lines.Export x) h f n i y t m = absurd y

-- ---- instances

-- an instance that a name stands for
pub instance_in : (k : Composition) (n : Name) (i : Instance) → held_as k n ≡ Some (an_instance i)
    → IsIn i (instances_in k) × (i.id.name ≡ n)
instance_in k n i e =
    let h = held_found k n (an_instance i) e in
    let m = held_instance h.0 h.2 i h.3 h.5 in
    (in_flat_map instances_by h.0 i k.lines h.1 m.0, ap (λ (w : Id). w.name) (sym m.1) ∙ h.4)

-- an instance that a name stands for among those of a group
pub member_in : (k : Composition) (g n : Name) (f : Name → Option Instance) (i : Instance) → held_as k g ≡ Some (a_group f)
    → f n ≡ Some i → IsIn i (instances_in k) × (i.id.name ≡ n)
member_in k g n f i e t =
    let h = held_found k g (a_group f) e in
    let m = held_member h.0 h.2 f n i h.3 h.5 t in
    (in_flat_map instances_by h.0 i k.lines h.1 m.0, m.1)

-- ---- ports

of_instance : (k : Composition) (n : Name) (i : Instance) → instance_held (held_as k n) ≡ Some i → IsIn i (instances_in k)
of_instance k n i e = by_case (held_as k n) refl e
  where
    by_case : (o : Option Held) → held_as k n ≡ o → instance_held o ≡ Some i → IsIn i (instances_in k)
    by_case (Some (an_instance j)) t u = let s : j ≡ i = cc in let P : Instance → Type 0 = λ z. IsIn z (instances_in k) in
        subst P s (instance_in k n j t).0
    by_case _ t u = cc

of_member : (k : Composition) (g n : Name) (i : Instance) → member_held (held_as k g) n ≡ Some i → IsIn i (instances_in k)
of_member k g n i e = by_case (held_as k g) refl e
  where
    by_case : (o : Option Held) → held_as k g ≡ o → member_held o n ≡ Some i → IsIn i (instances_in k)
    by_case (Some (a_group f)) t u = (member_in k g n f i t u).0
    by_case _ t u = cc

-- the port of a dotted name is one of an instance of the composition
pub port_in : (k : Composition) (words : List Id) (p : Port) → port_of (held_as k) words ≡ Some p → IsIn p.0 (instances_in k)
port_in k (a ∷ j ∷ []) p e = search (rules, map_some, of_instance)
port_in k (g ∷ a ∷ j ∷ []) p e = search (rules, map_some, of_member)
port_in k _ p e = cc
