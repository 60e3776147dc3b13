-- Paths of instances. A path is read from the outside in: its first name is that of an instance of the one body, the next
-- that of an instance of its component, and so on. Names of groups are in no path. The empty path stands for the body
-- itself. A leaf is an instance whose component has no composition.
use Rattle.std.specs.Prelude.{◌≡◌, ℕ, zero, suc, Bool, false, if◌then◌else◌, List, [], ◌∷◌, map, length, Option, Some}
use Rattle.adl_meaning.specs.Below.{bytes_eq, flat_map, option_and_then}
use Rattle.std.specs.Cmp.Lexicographic.{pointwise}
use Rattle.adl_meaning.specs.Hierarchy.{Hierarchy, Part, top_number, body, is_composite, part_named}
use Rattle.adl_meaning.specs.Items.{Name}

abbrev pub Path : Type 0
Path = List Name

abbrev pub same_path : Path → Path → Bool
same_path p q = pointwise bytes_eq p q

abbrev pub name_of : Part → Name
name_of x = x.instance.id.name

-- ---- what stands at a path

-- the number of the body at a path inside body k
abbrev pub at : Hierarchy → ℕ → Path → Option ℕ
at h k [] = Some k
at h k (n ∷ p) = option_and_then (λ x. at h x.kind p) (part_named (body h k).parts n)

-- a path inside body k to a component without a composition
abbrev pub IsLeaf : Hierarchy → ℕ → Path → Type 0
IsLeaf h k p = (m : ℕ) × (at h k p ≡ Some m) × (is_composite h m ≡ false)

-- ---- a walk to the leaves

-- an instance with its path
pub record Placed : Type 0 where
  pub path : Path
  pub part : Part

abbrev pub outside : Name → Placed → Placed
outside n x = record x { path = n ∷ x.path }

-- the leaves that an instance stands for: itself, or the leaves of its component, which f gives
abbrev pub placed_by : Hierarchy → (ℕ → List Placed) → Part → List Placed
placed_by h f x = if is_composite h x.kind then map (outside (name_of x)) (f x.kind) else record {
  path = name_of x ∷ [];
  part = x;
} ∷ []

-- The leaves in body k at paths of at most n names: those of its instances in their order, the leaves of a composite in
-- the place of the composite.
abbrev pub leaves_within : Hierarchy → ℕ → ℕ → List Placed
leaves_within h zero k = []
leaves_within h (suc n) k = flat_map (placed_by h (leaves_within h n)) (body h k).parts

-- All leaves in body k. Where no component holds itself, a path meets none twice, so that it has at most as many names as
-- there are components.
abbrev pub leaves_in : Hierarchy → ℕ → List Placed
leaves_in h k = leaves_within h (length h.bodies) k

abbrev pub leaves : Hierarchy → List Placed
leaves h = leaves_in h (top_number h)
