-- What a body's fields are, and what its tables by name say of it.
use Rattle.adl_meaning.specs.Prelude.{Body, Component, Name, Part, bytes_eq, declared_as, enumerate_from, find, is_device, is_interface, list_any, option_and_then, option_copied, option_map_or, place_by, slice_get}
use Rattle.std.specs.Prelude.{IfSome, List, Option, [], false, is_some, option_map, unwrap_or, ℕ, ◌≡◌}
use Rattle.name_tables.specs.ByName.{found}
use Rattle.adl_items.specs.Declaring.{declaring_told}
use Rattle.adl_program.specs.declared.part.PartAt.{PartAt}
use Rattle.adl_program.specs.declared.body.Body.TheInside.{Inside}
use Rattle.adl_program.specs.declared.body.Composed.{Composed}
use Rattle.adl_program.specs.declared.body.Members.{Members}

-- the parts of what stands in a composition that may be absent
abbrev pub parts_seen : Option Composed → List Part
parts_seen o = option_map_or (λ t. t.parts.items) o []

abbrev pub body_seen : Inside → Body
body_seen t = record {
  item = t.item;
  component = option_copied t.component;
  composition = option_copied t.composition;
  configuration = option_copied t.configuration;
  parts = parts_seen (slice_get t.composed.items 0);
}

-- the first instance of the name, by its number and that of its component, counted from this number
abbrev pub part_from : ℕ → List Part → Name → Option PartAt
part_from i xs n = option_map (λ x. record { number = x.0; kind = x.1.kind }) (find (λ x. bytes_eq n x.1.instance.id.name)
    (enumerate_from i xs))

-- the tables of a composition agree with it
pub record IsComposed (t : Option Composed) : Type 0 where
  pub parts_by_name : (n : Name) → option_and_then (λ k. found k.named n) t ≡ part_from 0 (parts_seen t) n
  pub groups_by_name : (n : Name) → option_map_or (λ k. is_some (found k.groups n)) t false ≡ list_any
      (λ x. option_map_or (bytes_eq n) x.group false) (parts_seen t)

-- those of a component's members agree with it
pub record AreMembers (o : Option Component) (t : Members) : Type 0 where
  pub declared_by_name : (n : Name) → declaring_told t.declared n ≡ option_and_then (λ c. declared_as c n) o
  pub places_by_name : (n : Name) → unwrap_or (found t.places n) t.count ≡ option_map_or
      (λ c. place_by (is_interface n) c.members) o 0
  pub hardware_is : t.hardware ≡ option_map_or is_device o false

-- all tables agree with the body; few members have none
pub record IsIndexed (t : Inside) : Type 0 where
  pub composed : IsComposed (slice_get t.composed.items 0)
  pub members : IfSome (slice_get t.members.items 0) (AreMembers (option_copied t.component))
