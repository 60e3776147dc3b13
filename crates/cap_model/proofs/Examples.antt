-- The examples' texts, computed.
use Rattle.cap_model.proofs.Common.{IsKept, lit<, refl, ◌≡◌}
use Rattle.std.specs.Fmt.{digits}
use Rattle.cam_base.specs.Hex.{hex_digits, hex_text}
use Rattle.cam_base.specs.Texts.{◌⊹◌, together}
use Rattle.cap_model.specs.Canonical.{canonical}
use Rattle.cap_model.specs.Example.{echo, echo_text, driver, driver_text, space, space_text}

pub echo_written : canonical echo ≡ echo_text
unfolding canonical ◌⊹◌ together hex_text hex_digits digits
echo_written = refl

pub driver_written : canonical driver ≡ driver_text
unfolding canonical ◌⊹◌ together hex_text hex_digits digits
driver_written = refl

pub space_written : canonical space ≡ space_text
unfolding canonical ◌⊹◌ together hex_text hex_digits digits
space_written = refl

pub echo_kept : IsKept echo
echo_kept = record { few = lit< tt; names = refl; objects = refl; lines = refl }

pub driver_kept : IsKept driver
driver_kept = record { few = lit< tt; names = refl; objects = refl; lines = refl }

pub space_kept : IsKept space
space_kept = record { few = lit< tt; names = refl; objects = refl; lines = refl }
