-- Where no fault of settings stands, none stands at a leaf, none at a connection, and no two devices have one interrupt.
use Rattle.flat_laws.proofs.Common.{None, Source, [], flat_map, flat_of, founds_in, hierarchy_of, leaves_found, none_left, none_right, ◌++◌, ◌≡◌}
use Rattle.adl_meaning.proofs.Least.{least-empty}
use Rattle.adl_settings.specs.BadValue.{bad_in_leaf}
use Rattle.adl_settings.specs.DeviceOverlap.{overlaps, regions}
use Rattle.adl_settings.specs.IrqTwice.{irqs, irqs_twice}
use Rattle.adl_settings.specs.SettingFaults.{faults_on, first_setting_fault, setting_faults, value_faults}
use Rattle.adl_settings.specs.SettingTwice.{settings_twice}

pub record AreSettingsSound (s : Source) : Type 0 where
  pub leaves : flat_map bad_in_leaf (leaves_found (hierarchy_of s) (flat_of s)) ≡ []
  pub connections : flat_map faults_on (founds_in (hierarchy_of s) s (flat_of s)) ≡ []
  pub apart : irqs_twice (irqs (founds_in (hierarchy_of s) s (flat_of s))) ≡ []

pub settings_sound : (s : Source) → first_setting_fault s ≡ None → AreSettingsSound s
settings_sound s none =
    let h = hierarchy_of s in
    let fs = founds_in h s (flat_of s) in
    let ls = leaves_found h (flat_of s) in
    let values = none_right (settings_twice h) (value_faults ls fs) (least-empty (setting_faults s) none) in
    let a = flat_map bad_in_leaf ls in
    let b = flat_map faults_on fs in
    let c = overlaps (regions fs) in
    let d = irqs_twice (irqs fs) in
    let two = none_left (a ++ b) c (none_left (a ++ b ++ c) d values) in
    record { leaves = none_left a b two; connections = none_right a b two; apart = none_right (a ++ b ++ c) d values }
