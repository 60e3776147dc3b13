-- The tables of a source without faults are connected.
use Rattle.spec_laws.proofs.Common.{AreFilesShort, AreNamesSound, AreNumbered, AreSound, Images, IsConnected, None, Source, ends_typed, first_flat_fault, first_page_limit, first_setting_fault, first_slot_fault, first_space_fault, first_type_fault}
use Rattle.spec_laws.proofs.Common.{flat_of, given, refl, rising, sections_stand, settings_sound, settled_of, tables_from, ◌≡◌}
use Rattle.spec_laws.proofs.Bounds.{dotted, registers_there}
use Rattle.spec_laws.proofs.MemorySizes.{memory_some}
use Rattle.spec_laws.proofs.SourceDevices.{devices_flat}

pub tables_are_connected : (s : Source) (images : Images) → AreFilesShort s → AreNamesSound s → first_type_fault s ≡ None
    → first_flat_fault s ≡ None → first_setting_fault s ≡ None
    → AreNumbered (flat_of s) images → AreSound images → first_space_fault (flat_of s) images ≡ None
    → first_slot_fault s (flat_of s) ≡ None → first_page_limit (given s (flat_of s) (settled_of s) images) ≡ None
    → IsConnected (tables_from s (flat_of s) (settled_of s) images)
tables_are_connected s images short sound types flat settings numbered sections space slots pages =
    let g = given s (flat_of s) (settled_of s) images in
    record {
      flat = devices_flat s sound (dotted s short) types;
      slots = refl;
      spaces = refl;
      rise = λ d. rising g d (sections_stand g numbered sections space d);
      seen = λ x w. memory_some s sound (dotted s short) types (ends_typed s sound (dotted s short) types)
          (settings_sound s settings) x.place x.number x.connection x.end x.here x.stands w;
      registers = (registers_there s short sound types settings).same;
    }
