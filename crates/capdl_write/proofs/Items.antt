-- Items of a slice that are read with a default.
use Rattle.capdl_write.proofs.Common.{Cap, false, ℕ}

-- the default of slots
abbrev pub no_slot : ℕ × Cap
no_slot = (0, record { object = 0; rights = record { read = false; write = false; grant = false; reply = false }; badge = 0 })
