-- What the objects of a system are made from: the source, its flat, settled system, the images of its programs, the slots of
-- its domains, its spaces, and the numbers of its labels. What is looked up by a number that nothing has is 0, empty or none.
use Rattle.std.specs.Prelude.{ℕ, Bool, List, [], Option, slice_get}
use Rattle.system_spec.specs.Below.{Arch, Connector, Flat, FlatConnection, Images, Owner, Page, Settled, SlotUse, Source, ThreadPlace, Window, items_of_file, option_and_then, option_map_or, position, setting_of}
use Rattle.adl_ast.specs.declared.file.Item.{Item}
use Rattle.adl_ast.specs.declared.file.Item.TheVariants as items
use Rattle.adl_meaning.specs.declared.flat.FlatEnd.{FlatEnd}
use Rattle.adl_meaning.specs.declared.item_at.ItemAt.{ItemAt}
use Rattle.arch_policy.specs.declared.numbers.LabelNumbers.{LabelNumbers}
use Rattle.arch_policy.specs.declared.owner.Owner.TheVariants as owners
use Rattle.conn_rules.specs.Ends.{end_rule}
use Rattle.cspace_layout.specs.declared.plan.Slots.{Slots}
use Rattle.source_images.specs.Images.{arch_of, image_number}
use Rattle.vspace_layout.specs.declared.owner.Owner.{Owner as FrameOwner}
use Rattle.vspace_layout.specs.declared.owner.Owner.TheVariants.{OfDomain, OfConnection, OfLeaf}
use Rattle.vspace_layout.specs.declared.spaces.Spaces.{Spaces}
use Rattle.system_spec.specs.declared.tables.Tables.{Tables as Given}

pub record Tables : Type 0 where
  pub source : Source
  pub flat : Flat
  pub settled : Settled
  pub images : Images
  pub slots : Slots
  pub spaces : Spaces
  pub numbers : LabelNumbers

-- those that references lead to
abbrev pub told : Given → Tables
told t = record {
  source = t.source.now;
  flat = t.flat.now;
  settled = t.settled.now;
  images = t.images.now;
  slots = t.slots.now;
  spaces = t.spaces.now;
  numbers = t.numbers.now;
}

abbrev pub arch : Tables → Arch
arch t = arch_of t.images.images

-- ---- by domain

-- what the slots of the domain are for
abbrev pub uses_at : Tables → ℕ → List SlotUse
uses_at t d = option_map_or (λ plan. plan.uses) (slice_get t.slots.domains d) []

abbrev pub pages_at : Tables → ℕ → List Page
pages_at t d = option_map_or (λ s. s.pages) (slice_get t.spaces.spaces d) []

abbrev pub threads_at : Tables → ℕ → List ThreadPlace
threads_at t d = option_map_or (λ s. s.threads) (slice_get t.spaces.spaces d) []

abbrev pub windows_at : Tables → ℕ → List Window
windows_at t d = option_map_or (λ s. s.windows) (slice_get t.spaces.spaces d) []

-- ---- leaves

abbrev pub name_of_item : Item → List ℕ
name_of_item (items.Component c) = c.id.name
name_of_item _ = []

-- the name of the component that stands there
abbrev pub component_name : Source → ItemAt → List ℕ
component_name source at =
    option_map_or (λ e. name_of_item e.item) (slice_get (items_of_file (slice_get source.files at.file)) at.item) []

-- the name of the leaf's component
abbrev pub leaf_name : Tables → ℕ → List ℕ
leaf_name t leaf = option_map_or (λ x. component_name t.source x.component) (slice_get t.flat.leaves leaf) []

abbrev pub priority : Tables → ℕ → ℕ
priority t leaf = option_map_or (λ s. s.priority) (slice_get t.settled.leaves leaf) 0

-- where the program of the leaf begins
abbrev pub entry_in : Images → Option ℕ → ℕ
entry_in images m = option_map_or (λ i. i.entry) (option_and_then (slice_get images.images) m) 0

abbrev pub leaf_entry : Tables → ℕ → ℕ
leaf_entry t leaf = entry_in t.images (image_number t.images leaf)

-- ---- devices

abbrev pub is_hardware : Connector → FlatEnd → Bool
is_hardware connector e = (end_rule connector e.role).hardware

-- the place of the first end at which the connector table has a device
abbrev pub device_place : Connector → List FlatEnd → Option ℕ
device_place connector ends = position (is_hardware connector) ends

abbrev pub device_end : Connector → List FlatEnd → Option FlatEnd
device_end connector ends = option_and_then (slice_get ends) (device_place connector ends)

-- whose the interrupt of connection k is: its device's, or its own where no end is a device's
abbrev pub irq_owner : ℕ → FlatConnection → Owner
irq_owner k c = option_map_or (λ e. owners.OfLeaf e.leaf) (device_end c.connector c.ends) (owners.OfConnection k)

-- the settled number of the interrupt, which is that of the device's end
abbrev pub irq_number : Settled → ℕ → FlatConnection → ℕ
irq_number settled k c = option_map_or (λ s. s.irq) (option_and_then (setting_of settled k) (device_place c.connector c.ends)) 0

-- whose a frame is
abbrev pub frame_owner : FrameOwner → Owner
frame_owner (OfDomain d) = owners.OfDomain d
frame_owner (OfConnection k) = owners.OfConnection k
frame_owner (OfLeaf l) = owners.OfLeaf l
