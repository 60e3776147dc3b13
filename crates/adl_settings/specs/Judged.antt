-- The ends at which a fault of values can stand: those with a badge or a value, and those of devices.
use Rattle.std.specs.Prelude.{Bool, is_some, ◌||◌}
use Rattle.adl_settings.specs.Joints.{Found, has_badge}

abbrev pub has_value : Found → Bool
has_value f = is_some f.access || (is_some f.badge || (is_some f.size || (is_some f.paddr || is_some f.irq)))

abbrev pub is_judged : Found → Bool
is_judged f = has_badge f.joint || (f.joint.leaf.hardware || has_value f)
