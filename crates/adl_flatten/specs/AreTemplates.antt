-- What templates rest on, and what tables of templates tell.
use Rattle.adl_meaning.specs.Prelude.{Hierarchy, Name, body, has, is_composite, leaves_in, name_of, option_map_or}
use Rattle.std.specs.Prelude.{All, Bool, IfSome, List, [], false, length, map, slice_index, slice_index_or, suc, true, ℕ, ◌+◌, ◌<◌, ◌^◌, ◌≡◌, ◌≤◌}
use Rattle.adl_hierarchy.specs.Finite.{IsFinite}
use Rattle.adl_hierarchy.specs.Once.{IsOnce}
use Rattle.adl_program.specs.LedEnds.{LedEnd}
use Rattle.adl_program.specs.declared.part.PartAt.{PartAt}
use Rattle.name_tables.specs.ByName.{found}
use Rattle.adl_flatten.specs.Templates.{export_target, leaves_before, template_connections, template_leaves}
use Rattle.adl_flatten.specs.declared.template.Template.{Template}

pub record IsReady (h : Hierarchy) : Type 0 where
  pub finite : IsFinite h
  pub once : (k : ℕ) → IsOnce (map name_of (body h k).parts)
  pub composed : (k : ℕ) → is_composite h k ≡ false → (body h k).parts ≡ []
  pub few : (k : ℕ) → option_map_or (λ c. length c.members) (body h k).component 0 < 2 ^ 32

-- the template of body k
pub record IsTemplate (h : Hierarchy) (k : ℕ) (t : Template) : Type 0 where
  pub leaves : t.leaves.items ≡ template_leaves h k
  pub connections : t.connections.items ≡ template_connections h k
  pub targets : (n : Name) → found t.targets n ≡ export_target h k n

-- the table has the templates of the components of the instances of body k
pub record AreInner (h : Hierarchy) (k : ℕ) (all : List Template) : Type 0 where
  pub ready : IsReady h
  pub number : k ≤ length h.bodies
  pub few : length (leaves_in h k) < 2 ^ 32
  pub within : All (λ x. x.kind < length all) (body h k).parts
  pub each : (t : Template) → All (λ x. IsTemplate h x.kind (slice_index_or all x.kind t)) (body h k).parts

-- the numbers of leaves in front of the instances of body k
pub record AreBefore (h : Hierarchy) (k : ℕ) (before : List ℕ) : Type 0 where
  pub length_is : length before ≡ length (body h k).parts
  pub each : (i : ℕ) → i < length (body h k).parts → slice_index before i ≡ leaves_before h k i

-- the template of the component of an instance, by its number and its component's, and the number of leaves in front
pub record IsInside (h : Hierarchy) (all : List Template) (before : List ℕ) (at : PartAt) : Type 0 where
  pub within : at.kind < length all
  pub numbered : at.number < length before
  pub template : (t : Template) → IsTemplate h at.kind (slice_index_or all at.kind t)
  pub room : slice_index_or before at.number 0 + length (leaves_in h at.kind) < 2 ^ 32

-- an end that leads somewhere leads to such an instance, and the place of its member is that of few
abbrev pub IsLedInside : Hierarchy → List Template → List ℕ → LedEnd → Type 0
IsLedInside h all before x = IfSome x.lead (λ l. IsInside h all before l.part × (l.port.member < 2 ^ 32))

-- the marks of bodies that the assembly holds: with each body, but for those that wait, the components of its instances, and
-- none that has too many leaves to number
pub record AreHeld (h : Hierarchy) (waiting : List ℕ) (held : List Bool) : Type 0 where
  pub length_is : length held ≡ suc (length h.bodies)
  pub top : slice_index_or held (length h.bodies) false ≡ true
  pub few : (k : ℕ) → k ≤ length h.bodies → slice_index_or held k false ≡ true → length (leaves_in h k) < 2 ^ 32
  pub inner : (k : ℕ) → k ≤ length h.bodies → has waiting k ≡ false → slice_index_or held k false ≡ true
      → All (λ x. slice_index_or held x.kind false ≡ true) (body h k).parts
