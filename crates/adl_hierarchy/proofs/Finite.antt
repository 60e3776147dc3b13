-- Where no fault of names stands, the hierarchy is finite: no component is recursive, and the assembly is no component.
use Rattle.adl_hierarchy.proofs.Common.{AreNamesSound, Body, Component, Hierarchy, IsFinite, IsIn, ItemAt, List, Part, Some, Source, ap, arith, body, body_of, components, from_map, get_map, graph, graph_of, hierarchy_of, inl, inr, instances_of}
use Rattle.adl_hierarchy.proofs.Common.{kind_named, length, length-append, length-map, map, rules, slice_get, subst, suc, sym, true, zero, ℕ, ◌<◌, ◌∙◌, ◌≡◌, ◌≤◌}
use Rattle.adl_meaning.specs.Prelude.{Walk, has, inner_of}
use Rattle.adl_hierarchy.proofs.ComponentNumbers.{numbers_below, composed_instance, listed, graph_in_range, acyclic_from_none}
use Rattle.adl_hierarchy.proofs.Lists.{in_has}
use Rattle.adl_hierarchy.proofs.Walks.{walk_in_range}
use Rattle.adl_hierarchy.proofs.Bodies.{body_at, part_of_body, inner_of_body}

-- the components without their places
bare : Source → List Component
bare s = map (λ c. c.1) (components s)

-- the graph of the components alone, in which instances count in each composition
inner_graph : Source → List (List ℕ)
inner_graph s = graph_of (kind_named s) (bare s)

pub graph_size : (h : Hierarchy) → length (graph h) ≡ suc (length h.bodies)
graph_size h = grind (arith, length-map, length-append)

-- an edge of the hierarchy's graph is an instance in a body
pub record IsEdge (h : Hierarchy) (a : ℕ) (c : ℕ) : Type 0 where
  pub part : Part
  pub stands : IsIn part (body h a).parts
  pub kind : part.kind ≡ c

pub edge : (h : Hierarchy) (a c : ℕ) → a < length (graph h) → has (inner_of (graph h) a) c ≡ true → IsEdge h a c
edge h a c l e =
    let low : a ≤ length h.bodies = omega (arith, l, graph_size h) in
    let i = from_map (λ (x : Part). x.kind) c (body h a).parts (in_has c (map (λ (x : Part). x.kind) (body h a).parts)
    (ap (λ ts. has ts c) (sym (inner_of_body h a low)) ∙ e)) in
    record { part = i.0; stands = i.1; kind = i.2 }

-- the number of an instance's type is one of a component
pub kind_below : (s : Source) (a : ℕ) (x : Part) → IsIn x (body (hierarchy_of s) a).parts → x.kind < length (components s)
unfolding bare
kind_below s a x i =
    omega (
      arith,
      numbers_below (bare s) x.instance.component.name x.kind (part_of_body s a x i).typed,
      length-map (components s)
          (λ (c : ItemAt × Component). c.1),
    )

-- an instance in a body with the number of a component is one of the component
record IsHeld (s : Source) (a : ℕ) (x : Part) : Type 0 where
  component : Component
  numbered : slice_get (bare s) a ≡ Some component
  stands : IsIn x.instance (instances_of component)

held_at : (s : Source) (a : ℕ) (x : Part) → a < length (components s) → IsIn x (body (hierarchy_of s) a).parts → IsHeld s a x
unfolding bare
held_at s a x l i =
    let p = part_of_body s a x i in
    elim (body_at s a) [
      | inl c ↦ record {
        component = c.0.1;
        numbered = get_map (λ (c : ItemAt × Component). c.1) (components s) a c.0 c.1;
        stands = composed_instance c.0.1 p.composition x.instance (ap (λ (b : Body). b.composition) (sym c.2)
            ∙ p.composed) p.stands;
      }
      | inr t ↦ let high = t.0 in absurd (omega arith)
    ]

-- ---- walks from a component are those of the components alone

inner_edge : (s : Source) (a c : ℕ) → a < length (components s) → IsEdge (hierarchy_of s) a c
    → has (inner_of (inner_graph s) a) c ≡ true
unfolding inner_graph
inner_edge s a c l e =
    let k = held_at s a e.part l e.stands in
    listed (kind_named s) (bare s) a k.component e.part.instance c k.numbered k.stands ((part_of_body s a e.part e.stands).typed
    ∙ ap Some e.kind)

in_graph : (s : Source) (a : ℕ) → a ≤ length (components s) → a < length (graph (hierarchy_of s))
in_graph s a l = omega (arith, graph_size (hierarchy_of s), length-map (components s) (body_of (kind_named s)))

inner_walk : (s : Source) (n a b : ℕ) → a < length (components s) → Walk (graph (hierarchy_of s)) a b n
    → Walk (inner_graph s) a b n
inner_walk s zero a b l w = w
inner_walk s (suc n) a b l w =
    let e = edge (hierarchy_of s) a w.0 (in_graph s a (omega arith)) w.1 in
    let P : ℕ → Type 0 = λ z. z < length (components s) in
    (w.0, inner_edge s a w.0 l e, inner_walk s n w.0 b (subst P e.kind (kind_below s a e.part e.stands)) w.2)

pub sound_is_finite : (s : Source) → AreNamesSound s → IsFinite (hierarchy_of s)
unfolding bare inner_graph
sound_is_finite s sound = record {
  range = λ a c l e.
      let x = edge (hierarchy_of s) a c l e in
      let low : c < length (components s) = subst (λ z. z < length (components s)) x.kind (kind_below s a x.part x.stands) in
      in_graph s c (omega arith);
  acyclic = λ a c n l e w.
      let x = edge (hierarchy_of s) a c l e in
      let low : c < length (components s) = subst (λ z. z < length (components s)) x.kind (kind_below s a x.part x.stands) in
      let g = inner_graph s in
      let size : length g ≡ length (bare s) = length-map (bare s) _ in
      let all : length (bare s) ≡ length (components s) = length-map (components s) _ in
      let inner = inner_walk s n c a low w in
      let inside : c < length g = omega (arith, low, size, all) in
      let back : a < length g = search (rules, walk_in_range, graph_in_range, bare, numbers_below) in
      acyclic_from_none (kind_named s) (bare s) (numbers_below (bare s)) sound.none_recursive a c n back
      (inner_edge s a c (omega (arith, back, size, all)) x) inner;
}
