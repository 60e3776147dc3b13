-- What is laid out from whose tables can be written: settings are numbers of 64 bits, threads run programs that have names, and
-- images have names and sound sections. Sources without faults keep it.
use Rattle.std.specs.Prelude.{◌≡◌, ◌<◌, ◌^◌, ℕ, true, slice_get, Some, IsTrue}
use Rattle.spec_laws.specs.Below.{FlatConnection, Given, Image, IsIn, Leaf, Section, ThreadOf, component_name, irq_number, is_name, settled_badge, threads_of}
use Rattle.sect_table.specs.Sections.{is_sound}

pub record IsImagePlain (image : Image) : Type 0 where
  pub entry : image.entry < 2 ^ 64
  pub name : is_name image.name ≡ true
  pub sections : (s : Section) → IsIn s image.sections → IsTrue (is_sound s)

-- the leaf is there, and its component has a name
pub record HasProgram (g : Given) (leaf : ℕ) : Type 0 where
  pub found : Leaf
  pub here : slice_get g.flat.leaves leaf ≡ Some found
  pub named : is_name (component_name g.source found.component) ≡ true

pub record IsPlain (g : Given) : Type 0 where
  pub badges : (k n : ℕ) → settled_badge g.settled k n < 2 ^ 64
  pub numbers : (k : ℕ) (c : FlatConnection) → slice_get g.flat.connections k ≡ Some c → irq_number g.settled k c < 2 ^ 64
  pub programs : (d : ℕ) (x : ThreadOf) → IsIn x (threads_of g d) → HasProgram g x.leaf
  pub images : (m : ℕ) (image : Image) → slice_get g.images.images m ≡ Some image → IsImagePlain image
