-- The names of components are names, in files that tokens spell.
use Rattle.spec_laws.proofs.Common.{AreFilesShort, AreNamesSound, Body, Component, Ended, IsIn, IsOne, Item, ItemAt, Leaf, List, Option, Some, Source, [], ap, as_component, body_number, component_name, components, flat_of, from_filter_map}
use Rattle.spec_laws.proofs.Common.{from_get_map, hierarchy_of, in_get, is_name, item_component, item_line, item_spelled, items_of, leaf_component, leaf_of, leaves, name_of_item, named_is, option_map_or, slice_get, subst, sym, true, unwrap_or}
use Rattle.spec_laws.proofs.Common.{ℕ, rules, ◌∙◌, ◌≡◌}
use Rattle.adl_ast.specs.Forms.{component_line}
use Rattle.adl_ast.specs.declared.file.Item.TheVariants as items
use Rattle.adl_ast.specs.declared.id.Id.{Id}
use Rattle.adl_hierarchy.proofs.Sources.{component_item}
use Rattle.flat_laws.proofs.MembersAt.{item_at}

-- ---- names of spelled components

pub component_named : (c : Component) → IsOne component_line c → is_name c.id.name ≡ true
unfolding component_line
component_named c w =
    let p = w.1 in
    let P : List ℕ → Type 0 = λ z. is_name z ≡ true in
    subst P (sym (ap (λ (z : Component). z.id.name) p.1 ∙ ap (λ (z : Id). z.name) p.2.4.3.1)) (named_is p.2.4.3.0.text)

-- ---- the names of leaves' components

name_there : (s : Source) (c : ItemAt × Component) → IsIn c (components s) → component_name s c.0 ≡ c.1.id.name
name_there s c i =
    let x = from_filter_map as_component c (items_of s) i in let e = item_at s x.0 x.1 in
    by_item x.0 x.2 (ap (λ (o : Option Ended). option_map_or (λ (z : Ended). name_of_item z.item) o []) e.1 ∙ ap name_of_item e.2)
  where
    by_item : (y : ItemAt × Item) → as_component y ≡ Some c → component_name s y.0 ≡ name_of_item y.1
        → component_name s c.0 ≡ c.1.id.name
    by_item (at, items.Component d) t m = search (rules)
    by_item (at, _) t m = cc

pub leaves_named : (s : Source) → AreFilesShort s → AreNamesSound s → (l : ℕ) (leaf : Leaf)
    → slice_get (flat_of s).leaves l ≡ Some leaf → is_name (component_name s leaf.component) ≡ true
leaves_named s short sound l leaf at =
    let h = hierarchy_of s in let x = from_get_map (leaf_of h) (leaves h) l leaf at in
    let c = leaf_component s sound x.0 (in_get (leaves h) l x.0 x.1) in
    let i = in_get (components s) x.0.part.kind c.0 c.1 in
    let P : List ℕ → Type 0 = λ z. is_name z ≡ true in
    let is : component_name s leaf.component ≡ c.0.1.id.name = ap (λ (z : Leaf). component_name s z.component) (sym x.2)
    ∙ ap (λ (b : Body). component_name s (unwrap_or b.item (record { file = 0; item = 0 }))) (body_number s x.0.part.kind c.0 c.1)
    ∙ name_there s c.0 i in
    subst P (sym is) (let x = component_item s c.0 i in let P : Item → Type 0 = λ y. IsOne item_line y in
    component_named c.0.1
    (item_component c.0.1 (subst P x.2 (item_spelled s (λ f j. let w = short f j in (w.0, w.1)) x.0 x.1))))
