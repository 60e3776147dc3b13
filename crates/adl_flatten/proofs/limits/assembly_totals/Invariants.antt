use Rattle.adl_flatten.proofs.Common.{IsFilled}
use Rattle.adl_flatten.proofs.Totals.{IsTotal}
use Rattle.adl_flatten.proofs.limits.assembly_totals.Given as goal

abbrev pub invariant-loop-number : goal.invariant-loop-number
invariant-loop-number l = IsFilled (IsTotal l.program) l.program l.number-items l.all.items l.number-index
