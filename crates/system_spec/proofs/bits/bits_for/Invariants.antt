use Rattle.system_spec.proofs.Common.{bits_for, bits_from, ◌-◌, ◌^◌, ◌≡◌, ◌≤◌}
use Rattle.system_spec.proofs.bits.bits_for.Given as goal

abbrev pub invariant-loop-bits : goal.invariant-loop-bits
invariant-loop-bits l = (l.bits ≤ 16) × (l.size ≡ 2 ^ l.bits) × (bits_from l.slots l.bits (16 - l.bits) ≡ bits_for l.slots)

abbrev pub decreases-loop-bits : goal.decreases-loop-bits
decreases-loop-bits l = 16 - l.bits
