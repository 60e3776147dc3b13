-- The compositions of a source's bodies, and the items that they stand in.
use Rattle.adl_hierarchy.proofs.Common.{Assembly, Body, Component, Composition, IsIn, Item, ItemAt, List, None, Option, Some, Source, [], ap, as_assembly, as_component, assemblies, body, components, composition_of, flat_map, from_filter_map}
use Rattle.adl_hierarchy.proofs.Common.{hierarchy_of, inl, inr, items_of, kind_named, none_in, refl, slice_get, sym, top_of, ℕ, ◌∙◌, ◌≡◌, ◌⊎◌}
use Rattle.adl_ast.specs.declared.file.Item.TheVariants as items
use Rattle.adl_hierarchy.proofs.Bodies.{body_at}
use Rattle.adl_hierarchy.proofs.Lists.{in_get}

-- a component is an item
pub component_item : (s : Source) (c : ItemAt × Component) → IsIn c (components s) → (x : ItemAt × Item) × IsIn x (items_of s)
    × (x.1 ≡ items.Component c.1)
component_item s c i = let k = from_filter_map as_component c (items_of s) i in (k.0, k.1, is_component k.0 k.2)
  where
    is_component : (y : ItemAt × Item) → as_component y ≡ Some c → y.1 ≡ items.Component c.1
    is_component (at, items.Import i) t = cc
    is_component (at, items.Procedure p) t = cc
    is_component (at, items.Component d) t = cc
    is_component (at, items.Assembly a) t = cc

-- so is an assembly
pub assembly_item : (s : Source) (a : ItemAt × Assembly) → IsIn a (assemblies s) → (x : ItemAt × Item) × IsIn x (items_of s)
    × (x.1 ≡ items.Assembly a.1)
assembly_item s a i = let k = from_filter_map as_assembly a (items_of s) i in (k.0, k.1, is_assembly k.0 k.2)
  where
    is_assembly : (y : ItemAt × Item) → as_assembly y ≡ Some a → y.1 ≡ items.Assembly a.1
    is_assembly (at, items.Import i) t = cc
    is_assembly (at, items.Procedure p) t = cc
    is_assembly (at, items.Component c) t = cc
    is_assembly (at, items.Assembly d) t = cc

none_in_item : {X : Type 0} (s : Source) (f : Item → List X) (y : Item) → flat_map (λ x. f x.1) (items_of s) ≡ []
    → (x : ItemAt × Item) × IsIn x (items_of s) × (x.1 ≡ y) → f y ≡ []
none_in_item s f y e k = ap f (sym k.2) ∙ none_in (λ (x : ItemAt × Item). f x.1) (items_of s) k.0 e k.1

-- where no item has what f lists, no component has it
pub none_in_component : {X : Type 0} (s : Source) (f : Item → List X) (c : ItemAt × Component)
    → flat_map (λ x. f x.1) (items_of s) ≡ [] → IsIn c (components s) → f (items.Component c.1) ≡ []
none_in_component s f c e i = none_in_item s f (items.Component c.1) e (component_item s c i)

-- nor has an assembly
pub none_in_assembly : {X : Type 0} (s : Source) (f : Item → List X) (a : ItemAt × Assembly)
    → flat_map (λ x. f x.1) (items_of s) ≡ [] → IsIn a (assemblies s) → f (items.Assembly a.1) ≡ []
none_in_assembly s f a e i = none_in_item s f (items.Assembly a.1) e (assembly_item s a i)

-- the composition of a body is the first of a component, or that of an assembly
pub composed : (s : Source) (k : ℕ) (composition : Composition) → (body (hierarchy_of s) k).composition ≡ Some composition
    → ((c : ItemAt × Component) × IsIn c (components s) × (composition_of c.1 ≡ Some composition)
    × (slice_get (components s) k ≡ Some c)) ⊎ ((a : ItemAt × Assembly) × IsIn a (assemblies s) × (a.1.composition ≡ composition))
composed s k composition e = elim (body_at s k) [
  | inl c ↦ inl (c.0, in_get (components s) k c.0 c.1, ap (λ (b : Body). b.composition) (sym c.2) ∙ e, c.1)
  | inr t ↦
      inr (of_top (slice_get (assemblies s) 0) (λ a m. in_get (assemblies s) 0 a m)
      (ap (λ (b : Body). b.composition) (sym t.1) ∙ e))
]
  where
    of_top : (o : Option (ItemAt × Assembly)) → ((a : ItemAt × Assembly) → o ≡ Some a → IsIn a (assemblies s))
        → (top_of (kind_named s) o).composition ≡ Some composition → (a : ItemAt × Assembly) × IsIn a (assemblies s)
        × (a.1.composition ≡ composition)
    of_top None h t = cc
    of_top (Some a) h t = (a, h a refl, cc)
