-- Each leaf of software has an image: its component stands in the source, and types list the component's name.
use Rattle.spec_laws.proofs.Common.{AreImagesOf, AreNamesSound, Body, Bool, Component, Contents, HaveImages, Images, IsIn, Item, ItemAt, Leaf, List, Name, None, Option, Some, Source, ap, arith, body_number, bytes_eq}
use Rattle.spec_laws.proofs.Common.{bytes_eq-Decides, component_of, components, cond, filter_map, flat_of, from_enumerate, from_filter_map, from_flat_map, from_get_map, from_map, get_map, hierarchy_of, image_number, in_filter_map}
use Rattle.spec_laws.proofs.Common.{in_get, items_of, leaf_component, leaf_of, leaves, option_and_then, position, position_found, refl, rules, slice_get, sym, type_number, type_of, types, unwrap_or, ℕ, ◌∙◌, ◌≡◌}
use Rattle.adl_ast.specs.declared.file.Item.TheVariants as items
use Rattle.adl_hierarchy.proofs.Places.{firsts_are}
use Rattle.cam_base.proofs.Gathered.{place_of as listed_at}
use Rattle.source_images.specs.Types.{component_name}
use Rattle.spec_laws.proofs.StackPages.{soft_leaf}

-- ---- the component of a leaf has a name

-- where an item stands, its component is named
item_there : (s : Source) (x : ItemAt × Item) → IsIn x (items_of s) → component_name s x.0 ≡ component_of x.1
item_there s x i = search (rules, from_flat_map, from_enumerate, from_map)

name_there : (s : Source) (c : ItemAt × Component) → IsIn c (components s) → component_name s c.0 ≡ Some c.1.id.name
name_there s c i = search (rules, from_filter_map, item_there)

leaf_named : (s : Source) → AreNamesSound s → (l : ℕ) (leaf : Leaf) → slice_get (flat_of s).leaves l ≡ Some leaf
    → (n : Name) × (component_name s leaf.component ≡ Some n)
leaf_named s sound l leaf at =
    let h = hierarchy_of s in let x = from_get_map (leaf_of h) (leaves h) l leaf at in
    let c = leaf_component s sound x.0 (in_get (leaves h) l x.0 x.1) in
    let k = x.0.part.kind in (
      c.0.1.id.name,
      ap (λ (z : Leaf). component_name s z.component) (sym x.2)
          ∙ ap (λ (b : Body). component_name s (unwrap_or b.item (record { file = 0; item = 0 }))) (body_number s k c.0 c.1)
          ∙ name_there s c.0 (in_get (components s) k c.0 c.1),
    )

-- ---- types list its name

place_of : (n : Name) (xs : List Name) → IsIn n xs → (m : ℕ) × (position (bytes_eq n) xs ≡ Some m)
place_of n xs i = let k = listed_at n xs i in position_found (bytes_eq n) xs k.0 n k.1 ((bytes_eq-Decides n n).1 refl)

-- a leaf of software has the number of its type
leaf_numbered : (s : Source) → AreNamesSound s → (l d : ℕ) (leaf : Leaf) → slice_get (flat_of s).leaves l ≡ Some leaf
    → leaf.domain ≡ Some d → (m : ℕ) × (type_number s (flat_of s) leaf ≡ Some m)
leaf_numbered s sound l d leaf at own =
    let n = leaf_named s sound l leaf at in
    let typed : type_of s leaf ≡ Some n.0 = ap (λ (b : Bool). cond b None (component_name s leaf.component))
    (soft_leaf s l d leaf at own) ∙ n.1 in
    let all = filter_map (type_of s) (flat_of s).leaves in
    let r = place_of n.0 (types s (flat_of s)) ((firsts_are bytes_eq bytes_eq-Decides all n.0).1
    (in_filter_map (type_of s) leaf n.0 (flat_of s).leaves (in_get (flat_of s).leaves l leaf at) typed)) in
    (r.0, ap (option_and_then (λ name. position (bytes_eq name) (types s (flat_of s)))) typed ∙ r.1)

pub programs_have_images : (contents : Contents) (root : List ℕ) (s : Source) (images : Images) → AreNamesSound s
    → AreImagesOf contents root s (flat_of s) images → HaveImages (flat_of s) images
programs_have_images contents root s images sound read leaf d found at own =
    let r = leaf_numbered s sound leaf d found at own in (
      r.0,
      ap (λ (z : Images). image_number z leaf) read.images
          ∙ ap (option_and_then (λ o. o)) (get_map (type_number s (flat_of s)) (flat_of s).leaves leaf found at) ∙ r.1,
    )
