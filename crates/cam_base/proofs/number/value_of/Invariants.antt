use Rattle.cam_base.proofs.Common.{digits_value, digits_value_after, drop, ◌<◌, ◌^◌, ◌≡◌}
use Rattle.cam_base.proofs.number.value_of.Given as goal

abbrev pub invariant-loop-digit : goal.invariant-loop-digit
invariant-loop-digit l = record {
  small : l.value < 2 ^ 64;
  so_far : digits_value_after l.base l.value (drop l.digit-index l.digits) ≡ digits_value l.base l.digits;
}
