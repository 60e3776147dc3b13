-- What a compiled system has of its source: its slots, and its images with their labels and its map. Its programs are those of
-- the section tables of its components. The labels are those that its policy gives to objects, as in all that is said of its
-- edges, and have the dotted paths of their owners as texts.
use Rattle.std.specs.Prelude.{◌≡◌, ℕ, List, Some, slice_get}
use Rattle.arch_compile.specs.Below.{AreImagesOf, Contents, IsIn, Tables, component_name, flat_of, folder_of, table_name}
use Rattle.std.specs.FinMap.{get}
use Rattle.adl_meaning.specs.Paths.{Path}
use Rattle.adl_meaning.specs.declared.flat.Leaf.{Leaf}
use Rattle.arch_compile.specs.Built.{system_tables}
use Rattle.arch_compile.specs.LayoutFaults.{images_beside, root_of as root_name}
use Rattle.arch_compile.specs.Sound.{object_labels}
use Rattle.arch_compile.specs.declared.building.Build.{Build}
use Rattle.arch_policy.specs.declared.owner.Owner.{Owner}
use Rattle.assigned_laws.specs.Named.{HasPath}
use Rattle.cam_base.specs.Paths.{joined}
use Rattle.cap_model.specs.Lookup.{name_at}
use Rattle.sect_table.specs.Tables.{image_of}
use Rattle.sect_table.specs.declared.image.Image.{Image}
use Rattle.spec_laws.specs.Imaged.{AreImages}
use Rattle.spec_laws.specs.Labelled.{IsOf}
use Rattle.spec_laws.specs.Slotted.{AreSlots}
use Rattle.spec_laws.specs.Spaced.{Runs, root_of}

-- what its objects are made from
abbrev pub made_from : Contents → Build → Tables
made_from contents b = system_tables b.meaning.source (images_beside contents b.meaning.source)

-- the program of the component of this name: what the section table of the name says, which stands beside the root
pub record IsProgramOf (contents : Contents) (root name : List ℕ) (image : Image) : Type 0 where
  pub bytes : List ℕ
  pub stands : get contents (table_name (folder_of root) name) ≡ Some bytes
  pub says : image_of name bytes ≡ Some image
  pub named : image.name ≡ name

-- a leaf runs the program of its component
abbrev pub RunPrograms : Contents → Build → Type 0
RunPrograms contents b =
    (leaf : ℕ) (found : Leaf) (image : Image) → slice_get (flat_of b.meaning.source).leaves leaf ≡ Some found
    → Runs (made_from contents b) leaf image
    → IsProgramOf contents (root_name b.meaning.source) (component_name b.meaning.source found.component) image

-- the policy gives the object at the place the label with this text
pub record HasLabel (b : Build) (place : ℕ) (text : List ℕ) : Type 0 where
  pub label : ℕ
  pub given : slice_get b.policy.objects place ≡ Some (name_at b.spec place, label)
  pub line : IsIn (label, text) b.policy.labels

-- what is a domain's, a connection's or a device's has the label of its owner's path, joined by dots
abbrev pub HaveOwnersLabels : Contents → Build → Type 0
HaveOwnersLabels contents b =
    (place : ℕ) (owner : Owner) (path : Path) → HasPath (flat_of b.meaning.source) owner path
    → IsOf (made_from contents b) (object_labels b) place owner → HasLabel b place (joined path)

-- No fault stands in the section tables of its source, and each leaf runs the program of its component. Its slots are those of
-- its source; and so are its objects, threads, regions, pages, page tables, frames, and their labels in its policy, and its map.
pub record IsOfSource (contents : Contents) (b : Build) : Type 0 where
  pub read : AreImagesOf contents (root_name b.meaning.source) b.meaning.source (flat_of b.meaning.source)
      (images_beside contents b.meaning.source)
  pub programs : RunPrograms contents b
  pub slots : AreSlots (made_from contents b) b.spec b.map
  pub imaged : AreImages (made_from contents b) b.spec (root_of (made_from contents b)) (object_labels b) b.map
  pub labelled : HaveOwnersLabels contents b
