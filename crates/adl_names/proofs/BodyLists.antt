-- The items of a source, and the components among them.
use Rattle.adl_names.proofs.Common.{Bool, Bor, Component, Item, ItemAt, List, Member, Name, None, Option, Some, Source, [], ap, arith, as_component, as_composition, bytes_eq, component_at, component_of, cond, enumerate_from, false, filter_map, find, flat_map-map, is_composition, is_named, is_some, item_component, item_number, items_of, list_any, map, noted-append, option_and_then, option_copied, option_map, refl, slice_get, slice_get-map, suc, sym, true, ℕ, ◌+◌, ◌∙◌, ◌∷◌, ◌≡◌}
use Rattle.adl_names.specs.declared.bodies.Body.{Body}
use Rattle.adl_names.specs.Bodies.{item_of}
use Rattle.adl_ast.specs.declared.component.Member.TheVariants as members
use Rattle.adl_ast.specs.declared.file.Item.TheVariants as items

-- a component with a composition has a first one
pub composite_held : (ms : List Member) → list_any is_composition ms ≡ is_some (slice_get (filter_map as_composition ms) 0)
composite_held [] = refl
composite_held (members.Composition k ∷ ms) = refl
composite_held (m ∷ ms) = composite_held ms

pub copied_some : {X : Type 0} (r : Option (Bor X)) → is_some r ≡ is_some (option_copied r)
copied_some None = refl
copied_some (Some x) = refl

-- what is noted of the bodies of a source, one after another, is noted of its items
pub ruleset walks = (noted-append, flat_map-map)

pub ruleset composite_walks = (walks, composite_held, copied_some)

pub body_at : (bs : List Body) (xs : List Item) (k : ℕ) → map item_of bs ≡ xs
    → slice_get xs k ≡ option_map item_of (slice_get bs k)
body_at bs xs k e = ap (λ z. slice_get z k) (sym e) ∙ slice_get-map item_of bs k

-- the component of the number of a name, where the items from the number i on are these
numbered : (n : Name) (all : List Item) (xs : List (ItemAt × Item)) (i : ℕ)
    → ((j k : ℕ) → k ≡ i + j → slice_get all k ≡ slice_get (map (λ x. x.1) xs) j)
    → component_at all (option_map (λ x. x.0) (find (λ x. is_named n x.1) (enumerate_from i (map (λ x. x.1) xs)))) ≡ option_map
    (λ c. c.1) (find (λ c. bytes_eq n c.1.id.name) (filter_map as_component xs))
numbered n all [] i h = refl
numbered n all ((at, items.Component c) ∷ xs) i h =
    let later = find (λ (x : ℕ × Item). is_named n x.1) (enumerate_from (i + 1) (map (λ (x : ItemAt × Item). x.1) xs)) in
    let named = find (λ (c : ItemAt × Component). bytes_eq n c.1.id.name) (filter_map as_component xs) in
    elim (bytes_eq n c.id.name) as
    (λ b. component_at all (option_map (λ (x : ℕ × Item). x.0) (cond b (Some (i, items.Component c)) later)) ≡ option_map
    (λ (c : ItemAt × Component). c.1) (cond b (Some (at, c)) named)) [
      | true ↦ ap (option_and_then item_component) (h 0 i (omega arith))
      | false ↦ numbered n all xs (i + 1) (λ j k e. h (suc j) k (omega (arith, e)))
    ]
numbered n all (x ∷ xs) i h = numbered n all xs (i + 1) (λ j k e. h (suc j) k (omega (arith, e)))

pub component_numbered : (s : Source) (n : Name)
    → component_at (map (λ x. x.1) (items_of s)) (item_number (map (λ x. x.1) (items_of s)) n) ≡ component_of s n
component_numbered s n =
    let all = map (λ (x : ItemAt × Item). x.1) (items_of s) in
    numbered n all (items_of s) 0 (λ j k e. let same : k ≡ j = omega (arith, e) in ap (slice_get all) same)
