-- What the parts of a compilation answer, of a source that is loaded.
use Rattle.std.specs.Prelude.{◌≡◌, ℕ, List, Option, None, Result, Ok, Err}
use Rattle.arch_compile.specs.Below.{Contents, Fault, Flat, Given, Images, IsCertificateOf, IsIn, IsSorted, Labels, Policy, Rose, Source, SourceError, Spec, Tables, first_edge_fault, first_page_limit, first_slot_fault, first_space_fault, given}
use Rattle.arch_compile.specs.Below.{labels_of, map_lines, option_or, source_tables, spec_of, tables_from}
use Rattle.adl_meaning.specs.declared.settled.Settled.{Settled}
use Rattle.arch_compile.specs.Built.{IsMade, labelled}
use Rattle.arch_compile.specs.Compiled.{IsLayoutFault}
use Rattle.arch_compile.specs.LayoutFaults.{first_imaged_fault, first_layout_fault, found_beside, images_beside, tables_beside}
use Rattle.arch_compile.specs.declared.building.Build.{Build}
use Rattle.arch_compile.specs.declared.laying.Layout.{Layout}
use Rattle.arch_compile.specs.declared.making.Products.{Products}
use Rattle.arch_policy.specs.Tables.{Tables as PolicyTables}
use Rattle.cspace_layout.specs.Uses.{slots_of}
use Rattle.front_end.specs.Steps.{Tells}
use Rattle.cam_base.specs.declared.error.Unread.TheVariants as error
use Rattle.front_end.specs.declared.phases.FrontEnd.{FrontEnd}
use Rattle.front_end.specs.declared.phases.Meaning.{Meaning}
use Rattle.source_images.specs.Numbered.{AreNumbered, AreSound}
use Rattle.system_spec.specs.Buildable.{IsBuildable, IsWindowed}
use Rattle.vspace_layout.specs.Laid.{spaces_of}

-- ---- images

pub record IsImaged (flat : Flat) (images : Images) : Type 0 where
  pub numbered : AreNumbered flat images
  pub sound : AreSound images

-- ---- layouts

-- of sections; where there is none, of slots; where there is none, of pages
abbrev pub first_laid_fault : Given → Option Fault
first_laid_fault g =
    option_or (first_space_fault g.flat g.images) (option_or (first_slot_fault g.source g.flat) (first_page_limit g))

pub record IsLaid (source : Source) (flat : Flat) (settled : Settled) (images : Images) (layout : Layout) : Type 0 where
  pub slots : layout.slots ≡ slots_of source flat
  pub spaces : layout.spaces ≡ spaces_of (given source flat settled images)
  pub buildable : IsBuildable (tables_from source flat settled images)
  pub windowed : IsWindowed (tables_from source flat settled images)

-- ---- what is made

-- the policy with the labels of objects
abbrev pub with_objects : Policy → Spec → Labels → Policy
with_objects policy spec labels =
    record { labels = policy.labels; objects = labelled spec.entries labels.by_object; edges = policy.edges }

-- what the policy and the certificate are made from
abbrev pub policy_tables : Tables → PolicyTables
policy_tables t = record { source = t.source; flat = t.flat; settled = t.settled; numbers = t.numbers }

pub record IsMadeOf (t : Tables) (m : Products) : Type 0 where
  pub spec : m.system.spec ≡ spec_of t
  pub labels : m.system.labels ≡ labels_of t
  pub cert : IsCertificateOf (policy_tables t) m.cert
  pub sorted : IsSorted m.cert
  pub map : m.map ≡ map_lines t

-- ---- builds, from the last step to the first

-- of a front, with these images
abbrev pub Finishes : FrontEnd → Images → Result Build SourceError → Type 0
Finishes f images (Ok b) =
    (b.meaning ≡ record { source = f.source; flat = f.flat; settled = f.settled })
    × IsMade f.source images b.spec b.policy b.cert b.map
Finishes f images (Err e) = e ≡ error.NoMemory

-- of a meaning, with these images, whose layout is known
abbrev pub Completes : Meaning → Images → Result Build SourceError → Type 0
Completes m images (Ok b) =
    (b.meaning ≡ m) × (first_edge_fault (source_tables m.source) ≡ None)
    × IsMade m.source images b.spec b.policy b.cert b.map
Completes m images (Err e) = Tells m.source (first_edge_fault (source_tables m.source)) e

-- of a meaning, with these images
abbrev pub Lays : Meaning → Images → Result Build SourceError → Type 0
Lays m images (Ok b) =
    (b.meaning ≡ m) × (first_imaged_fault m.source images ≡ None)
    × IsMade m.source images b.spec b.policy b.cert b.map
Lays m images (Err e) = Tells m.source (first_imaged_fault m.source images) e

-- of a meaning
pub record IsBuiltOf (m : Meaning) (contents : Contents) (b : Build) : Type 0 where
  pub same : b.meaning ≡ m
  pub clean : first_layout_fault m.source (found_beside contents m.source) ≡ None
  pub made : IsMade m.source (images_beside contents m.source) b.spec b.policy b.cert b.map

abbrev pub Builds : Meaning → Contents → (List ℕ → ℕ) → (List ℕ → ℕ) → Result Build SourceError → Type 0
Builds m contents before now (Ok b) = IsBuiltOf m contents b
Builds m contents before now (Err (error.Fault fault file)) = IsLayoutFault contents m.source fault file
Builds m contents before now (Err (error.ReadFault file)) = IsIn file (tables_beside m.source) × Rose (before file) (now file)
Builds m contents before now (Err error.NoMemory) = Unit {0}
