-- The members of a component are those at its place in the source.
use Rattle.flat_laws.proofs.Common.{Component, Ended, IsIn, Item, ItemAt, Some, Source, ap, arith, as_component, components, enumerate_from, from_enumerate, from_filter_map, from_flat_map, from_map, items_in, items_of, items_of_file, members_at}
use Rattle.flat_laws.proofs.Common.{members_in, members_of, refl, slice_get, subst, ℕ, ◌∙◌, ◌≡◌}
use Rattle.adl_ast.specs.declared.file.Item.TheVariants as items

-- an item stands at its place
pub item_at : (s : Source) (x : ItemAt × Item) → IsIn x (items_of s)
    → (e : Ended) × (slice_get (items_of_file (slice_get s.files x.0.file)) x.0.item ≡ Some e) × (e.item ≡ x.1)
item_at s x i =
    let f = from_flat_map items_in x (enumerate_from 0 s.files) i in
    let file = from_enumerate 0 s.files f.0 f.1 in
    let e = from_map (λ (e : ℕ × Ended). let y : ItemAt × Item = (record { file = f.0.0; item = e.0 }, e.1.item) in
    y) x (enumerate_from 0 f.0.1.tree.items) f.2 in
    let item = from_enumerate 0 f.0.1.tree.items e.0 e.1 in
    let P : ItemAt × Item → Type 0 = λ y. (e : Ended) × (slice_get (items_of_file (slice_get s.files y.0.file)) y.0.item ≡ Some e)
    × (e.item ≡ y.1) in
    let a : f.0.0 ≡ file.0 = file.1 ∙ omega arith in
    let b : e.0.0 ≡ item.0 = item.1 ∙ omega arith in
    subst P e.2 (
      e.0.1,
      ap (λ n. slice_get (items_of_file (slice_get s.files n)) e.0.0) a ∙ ap (λ o. slice_get (items_of_file o) e.0.0) file.2
          ∙ ap (slice_get f.0.1.tree.items) b ∙ item.2,
      refl,
    )

pub members_there : (s : Source) (c : ItemAt × Component) → IsIn c (components s) → members_at s c.0 ≡ c.1.members
members_there s c i =
    let x = from_filter_map as_component c (items_of s) i in
    let e = item_at s x.0 x.1 in
    by_item x.0 x.2 (ap members_in e.1 ∙ ap members_of e.2)
  where
    by_item : (y : ItemAt × Item) → as_component y ≡ Some c → members_at s y.0 ≡ members_of y.1 → members_at s c.0 ≡ c.1.members
    by_item (at, items.Import i) t m = cc
    by_item (at, items.Procedure p) t m = cc
    by_item (at, items.Component d) t m =
        let same : (at, d) ≡ c = cc in
        subst (λ (z : ItemAt × Component). members_at s z.0 ≡ z.1.members) same m
    by_item (at, items.Assembly a) t m = cc
