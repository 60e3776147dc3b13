-- The tables of a source without faults keep what the laws of slots ask.
use Rattle.spec_laws.proofs.Common.{AreFilesShort, AreNamesSound, CanSlot, Domain, Images, None, Some, Source, arith, domain_uses, end_setting, ends_typed, first_setting_fault, first_slot_fault, first_type_fault, flat_of, get_map, length, plan_of}
use Rattle.spec_laws.proofs.Common.{refl, settings_sound, settled_of, slice_get, tables_from, ℕ, ◌<◌, ◌^◌, ◌≡◌}
use Rattle.spec_laws.proofs.SlotBounds as slots
use Rattle.spec_laws.proofs.Bounds.{dotted, few_uses}
use Rattle.spec_laws.proofs.SettledEnds.{end_found}
use Rattle.spec_laws.proofs.Interrupts.{device_there}

uses_few : (s : Source) → AreNamesSound s → first_slot_fault s (flat_of s) ≡ None → (d : ℕ) (x : Domain)
    → slice_get (flat_of s).domains d ≡ Some x → length (domain_uses s (flat_of s) x.leaves) < 2 ^ 16
uses_few s sound none d x at =
    omega (
      arith,
      slots.few_uses s (flat_of s) (few_uses s sound none) d (plan_of (domain_uses s (flat_of s) x.leaves))
          (get_map (λ (y : Domain). plan_of (domain_uses s (flat_of s) y.leaves)) (flat_of s).domains d x at),
    )

pub tables_have_slots : (s : Source) (images : Images) → AreFilesShort s → AreNamesSound s → first_type_fault s ≡ None
    → first_setting_fault s ≡ None → first_slot_fault s (flat_of s) ≡ None
    → CanSlot (tables_from s (flat_of s) (settled_of s) images)
tables_have_slots s images short sound types settings none = record {
  slots = refl;
  few = uses_few s sound none;
  settled = λ k n c e at is.
      let f = end_found s (ends_typed s sound (dotted s short) types) (settings_sound s settings) k n c e at is in
      (end_setting f.found, f.setting);
  devices = λ k c at int. let d = device_there s sound (dotted s short) types k c at int in (d.0, d.1, d.2, d.3);
}
