-- Missing stands at the name of an interface, in the declaration of a device's component, where an end joins it and it has
-- none of the values that it needs: a dataport an address, an `emits` the number of its interrupt. Its name is the
-- interface's. A value that isn't allowed isn't missing.
use Rattle.adl_meaning.specs.Prelude.{Fault, at_word, flat_map, is_none, where_true}
use Rattle.std.specs.Prelude.{Bool, List, ◌&&◌, ◌||◌}
use Rattle.adl_settings.specs.Joints.{Found, is_device_event, is_device_memory}
use Rattle.cam_base.specs.declared.code.Code.TheVariants as code

abbrev pub lacks_value : Found → Bool
lacks_value f = (is_device_memory f.joint && is_none f.paddr) || (is_device_event f.joint && is_none f.irq)

abbrev pub missing_at : Found → List Fault
missing_at f = where_true (lacks_value f) (at_word code.Missing f.joint.interface.id)

abbrev pub missing_in : List Found → List Fault
missing_in ends = flat_map missing_at ends
