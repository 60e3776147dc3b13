-- Value stands at a literal that gives a setting its value, where the value isn't one that the setting may have. Its name is
-- the last word of the setting in which the literal stands, or the attribute's name where it stands in a declaration. A
-- literal that gives no setting its value is no fault.
use Rattle.adl_meaning.specs.Prelude.{Fault, flat_map}
use Rattle.std.specs.Prelude.{List, unwrap_or, ◌++◌}
use Rattle.adl_settings.specs.Allowed.{access_in, badge_in, irq_in, paddr_in, priority_in, size_in, stack_in}
use Rattle.adl_settings.specs.EndMeaning.{bytes_of}
use Rattle.adl_settings.specs.Joints.{Found}
use Rattle.adl_settings.specs.Meant.{bad_value}
use Rattle.adl_settings.specs.Settled.{LeafFound}

abbrev pub bad_in_leaf : LeafFound → List Fault
bad_in_leaf f = bad_value priority_in f.priority ++ bad_value stack_in f.stack

abbrev pub bad_at_end : Found → List Fault
bad_at_end f =
    bad_value access_in f.access ++ bad_value badge_in f.badge ++ bad_value size_in f.size
    ++ bad_value (paddr_in (unwrap_or (bytes_of f) 0)) f.paddr ++ bad_value irq_in f.irq

abbrev pub bad_in_connection : List Found → List Fault
bad_in_connection ends = flat_map bad_at_end ends
