-- The faults of settings that stand in a source, and the first of them.
use Rattle.adl_meaning.specs.Prelude.{Fault, Hierarchy, Source, flat_map, flat_of, hierarchy_of, least}
use Rattle.std.specs.Prelude.{List, Option, ◌++◌}
use Rattle.adl_settings.specs.Words.{Flat}
use Rattle.adl_settings.specs.BadValue.{bad_in_connection, bad_in_leaf}
use Rattle.adl_settings.specs.BadgeTwice.{badges_twice_in}
use Rattle.adl_settings.specs.DeviceOverlap.{overlaps, regions}
use Rattle.adl_settings.specs.IrqTwice.{irqs, irqs_twice}
use Rattle.adl_settings.specs.Joints.{Found, founds_in}
use Rattle.adl_settings.specs.Missing.{missing_in}
use Rattle.adl_settings.specs.SettingTwice.{settings_twice}
use Rattle.adl_settings.specs.Settled.{LeafFound, leaves_found}

-- the faults of values at the ends of one connection
abbrev pub faults_on : List Found → List Fault
faults_on ends = bad_in_connection ends ++ missing_in ends ++ badges_twice_in ends

-- the faults of values, of leaves, of each connection and of all
abbrev pub value_faults : List LeafFound → List (List Found) → List Fault
value_faults leaves connections =
    flat_map bad_in_leaf leaves ++ flat_map faults_on connections ++ overlaps (regions connections)
    ++ irqs_twice (irqs connections)

abbrev pub setting_faults_in : Hierarchy → Source → Flat → List Fault
setting_faults_in h s flat = settings_twice h ++ value_faults (leaves_found h flat) (founds_in h s flat)

abbrev pub setting_faults : Source → List Fault
setting_faults s = setting_faults_in (hierarchy_of s) s (flat_of s)

abbrev pub first_setting_fault : Source → Option Fault
first_setting_fault s = least (setting_faults s)
