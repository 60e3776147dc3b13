use Rattle.capdl_read.proofs.Common.{None, drop, rises, ◌≡◌}
use Rattle.capdl_read.proofs.keyed.rise.Given as goal

abbrev pub invariant-loop-item : goal.invariant-loop-item
invariant-loop-item g l = rises g.K.Keyed.keyed_as l.last (drop l.item-index l.items) ≡ rises g.K.Keyed.keyed_as None l.items
