use Rattle.adl_types.proofs.Common.{None, faults_below, noted, ◌≡◌}
use Rattle.adl_types.proofs.faults.type_fault.Given as goal

abbrev pub invariant-loop-number : goal.invariant-loop-number
invariant-loop-number l = l.first ≡ noted None (faults_below l.program l.number)
