-- The bytes that a name keeps. No public clause cites this module.
use Rattle.std.specs.Prelude.{ℕ, List}
use Rattle.cam_base.specs.declared.name_bytes.NameBytes.{NameBytes}
use Rattle.cam_base.specs.declared.name_bytes.NameBytes.TheVariants.{Short, Middle, Long}

abbrev pub bytes_of : NameBytes → List ℕ
bytes_of (Short bytes) = bytes
bytes_of (Middle bytes) = bytes.value
bytes_of (Long bytes) = bytes.value
