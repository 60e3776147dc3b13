-- The bodies of a source's hierarchy, and their instances.
use Rattle.adl_hierarchy.proofs.Common.{AreNamesSound, Assembly, Body, Component, Composition, Hierarchy, Instance, IsIn, ItemAt, Line, List, Name, None, Option, Part, Some, Source, [], ap, assemblies, body, body_of, components, filter_map}
use Rattle.adl_hierarchy.proofs.Common.{from_filter_map, from_flat_map, get_map, get_or_from_slice_get, get_or_last, get_or_map, graph, hierarchy_of, in_flat_map, inl, inr, instances_by, instances_in, is_composite, is_some, kind_named, length}
use Rattle.adl_hierarchy.proofs.Common.{length-map, map, map_some, one_assembly, part_of, parts_by, parts_in, refl, rules, slice_get, slice_get_within, subst, sym, top_number, top_of, true, ℕ, ◌∙◌, ◌∷◌, ◌≡◌, ◌≤◌, ◌⊎◌}
use Rattle.adl_meaning.specs.Prelude.{inner_of}
use Rattle.adl_ast.specs.declared.composition.Line.TheVariants as lines

-- ---- instances

part_from : (numbers : Name → Option ℕ) (g : Option Name) (is : List Instance) (x : Part)
    → IsIn x (filter_map (part_of numbers g) is) → IsIn x.instance is × (numbers x.instance.component.name ≡ Some x.kind)
part_from numbers g is x m = search (rules, from_filter_map, map_some)

part_by : (numbers : Name → Option ℕ) (l : Line) (x : Part) → IsIn x (parts_by numbers l) → IsIn x.instance (instances_by l)
    × (numbers x.instance.component.name ≡ Some x.kind)
part_by numbers (lines.Instance i) x m = part_from numbers None (i ∷ []) x m
part_by numbers (lines.Group g) x m = part_from numbers (Some g.id.name) g.instances x m
part_by numbers _ x m = absurd m

-- an instance of a body is one of its composition, with the number of its type
pub record IsPart (numbers : Name → Option ℕ) (o : Option Composition) (x : Part) : Type 0 where
  pub composition : Composition
  pub composed : o ≡ Some composition
  pub stands : IsIn x.instance (instances_in composition)
  pub typed : numbers x.instance.component.name ≡ Some x.kind

pub part_in : (numbers : Name → Option ℕ) (o : Option Composition) (x : Part) → IsIn x (parts_in numbers o) → IsPart numbers o x
part_in numbers None x m = absurd m
part_in numbers (Some k) x m =
    let l = from_flat_map (parts_by numbers) x k.lines m in
    let p = part_by numbers l.0 x l.2 in
    record { composition = k; composed = refl; stands = in_flat_map instances_by l.0 x.instance k.lines l.1 p.0; typed = p.1 }

-- ---- bodies

-- a body is that of a component, or of the assembly
pub body_at : (s : Source) (k : ℕ)
    → ((c : ItemAt × Component) × (slice_get (components s) k ≡ Some c) × (body (hierarchy_of s) k ≡ body_of (kind_named s) c))
    ⊎ ((length (components s) ≤ k) × (body (hierarchy_of s) k ≡ top_of (kind_named s) (slice_get (assemblies s) 0)))
body_at s k = get_or_map (body_of (kind_named s)) (components s) k (top_of (kind_named s) (slice_get (assemblies s) 0))

pub body_number : (s : Source) (k : ℕ) (c : ItemAt × Component) → slice_get (components s) k ≡ Some c
    → body (hierarchy_of s) k ≡ body_of (kind_named s) c
body_number s k c e =
    get_or_from_slice_get (map (body_of (kind_named s)) (components s)) k (body_of (kind_named s) c) (hierarchy_of s).top
    (get_map (body_of (kind_named s)) (components s) k c e)

parts_of_top : (numbers : Name → Option ℕ) (a : Option (ItemAt × Assembly))
    → (top_of numbers a).parts ≡ parts_in numbers (top_of numbers a).composition
parts_of_top numbers None = refl
parts_of_top numbers (Some a) = refl

-- the instances of a body are those of its composition
pub parts_of : (s : Source) (k : ℕ) → (body (hierarchy_of s) k).parts ≡ parts_in (kind_named s)
    (body (hierarchy_of s) k).composition
parts_of s k = elim (body_at s k) [
  | inl c ↦ let P : Body → Type 0 = λ b. b.parts ≡ parts_in (kind_named s) b.composition in subst P (sym c.2) refl
  | inr t ↦ let P : Body → Type 0 = λ b. b.parts ≡ parts_in (kind_named s) b.composition in
      subst P (sym t.1) (parts_of_top (kind_named s) (slice_get (assemblies s) 0))
]

pub part_of_body : (s : Source) (k : ℕ) (x : Part) → IsIn x (body (hierarchy_of s) k).parts
    → IsPart (kind_named s) (body (hierarchy_of s) k).composition x
part_of_body s k x i = let P : List Part → Type 0 = λ xs. IsIn x xs in
    part_in (kind_named s) (body (hierarchy_of s) k).composition x (subst P (parts_of s k) i)

-- the graph lists the types of a body's instances
pub inner_of_body : (h : Hierarchy) (k : ℕ) → k ≤ length h.bodies → inner_of (graph h) k ≡ map (λ x. x.kind) (body h k).parts
inner_of_body h k l = get_or_last (λ (b : Body). map (λ (x : Part). x.kind) b.parts) h.bodies h.top k [] l

-- the top has a composition, where there is an assembly
pub top_composed : (s : Source) → AreNamesSound s → is_composite (hierarchy_of s) (top_number (hierarchy_of s)) ≡ true
top_composed s sound =
    let P : Body → Type 0 = λ b. is_some b.composition ≡ true in
    elim (body_at s (top_number (hierarchy_of s))) [
      | inl c ↦ search (rules, slice_get_within, length-map)
      | inr t ↦ subst P (sym (t.1 ∙ ap (λ xs. top_of (kind_named s) (slice_get xs 0)) (one_assembly s sound).1)) refl
    ]
