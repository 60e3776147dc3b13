-- A source without faults can be laid out, and what is laid out of it can be built.
use Rattle.spec_laws.proofs.Common.{AreDotted, AreFilesShort, AreNamesSound, AreNumbered, AreSound, CanLay, Images, IsBuildable, None, Source, arith, ends_typed, first_flat_fault, first_page_limit, first_setting_fault, first_slot_fault}
use Rattle.spec_laws.proofs.Common.{first_space_fault, first_type_fault, flat_of, flat_small, given, hierarchy_of, one_assembly, refl, sections_stand, settings_sound, settled_of, spelled_dotted, tables_from, ◌≡◌}
use Rattle.spec_laws.proofs.SlotBounds.{AreFewSlots, few_slots}
use Rattle.system_spec.specs.Buildable.{IsWindowed}
use Rattle.spec_laws.proofs.MemorySizes.{addresses_fit, memory_some, pages_fit, registers_are}
use Rattle.spec_laws.proofs.PageCounts.{few_pages}
use Rattle.spec_laws.proofs.PartBounds.{buildable}
use Rattle.spec_laws.proofs.SpaceBounds.{HaveRegisters, few_window_pages}
use Rattle.spec_laws.proofs.Windows.{seen, seen_pages}

pub dotted : (s : Source) → AreFilesShort s → AreDotted (hierarchy_of s)
dotted s short = spelled_dotted s (λ f i. let x = short f i in (x.0, x.1))

pub can_lay : (s : Source) (images : Images) → AreFilesShort s → AreNamesSound s → first_type_fault s ≡ None
    → first_flat_fault s ≡ None → first_setting_fault s ≡ None → CanLay (given s (flat_of s) (settled_of s) images)
can_lay s images short sound types flat settings =
    let g = given s (flat_of s) (settled_of s) images in let small = flat_small s sound flat in
    let typed = ends_typed s sound (dotted s short) types in
    record {
      domains = let l = small.domains in omega (arith, l);
      connections = small.connections;
      windows = λ d e i.
          let w = seen g d e i in
          let some = memory_some s sound (dotted s short) types typed (settings_sound s settings) e.connection e.end w.connection
          w.end w.there w.joined w.window in
          omega (arith, some, seen_pages g e w);
      memory = λ k c at. pages_fit s k c;
      addresses = λ k c at. addresses_fit s k c;
    }

pub registers_there : (s : Source) → AreFilesShort s → AreNamesSound s → first_type_fault s ≡ None → first_setting_fault s ≡ None
    → HaveRegisters (flat_of s) (settled_of s)
registers_there s short sound types settings =
    registers_are s sound (dotted s short) types (ends_typed s sound (dotted s short) types) (settings_sound s settings)

pub few_uses : (s : Source) → AreNamesSound s → first_slot_fault s (flat_of s) ≡ None → AreFewSlots s (flat_of s)
few_uses s sound none = let a = one_assembly s sound in few_slots s (flat_of s) a.0 a.1 none

pub can_build : (s : Source) (images : Images) → AreFilesShort s → AreNamesSound s → first_type_fault s ≡ None
    → first_flat_fault s ≡ None → first_setting_fault s ≡ None
    → AreNumbered (flat_of s) images → AreSound images → first_space_fault (flat_of s) images ≡ None
    → first_slot_fault s (flat_of s) ≡ None → first_page_limit (given s (flat_of s) (settled_of s) images) ≡ None
    → IsBuildable (tables_from s (flat_of s) (settled_of s) images)
can_build s images short sound types flat settings numbered sections space slots pages =
    let g = given s (flat_of s) (settled_of s) images in let one = one_assembly s sound in
    buildable (tables_from s (flat_of s) (settled_of s) images) refl refl (flat_small s sound flat) (few_uses s sound slots)
    (can_lay s images short sound types flat settings) (few_pages g one.0 one.1 pages).pages
    (registers_there s short sound types settings) (sections_stand g numbered sections space)

pub can_map : (s : Source) (images : Images) → AreFilesShort s → AreNamesSound s → first_type_fault s ≡ None
    → first_flat_fault s ≡ None → first_setting_fault s ≡ None → IsWindowed (tables_from s (flat_of s) (settled_of s) images)
can_map s images short sound types flat settings =
    record {
      sized = λ d w i. let l = few_window_pages (given s (flat_of s) (settled_of s) images) (λ k c at. pages_fit s k c) d w
          i in omega (arith, l);
    }
