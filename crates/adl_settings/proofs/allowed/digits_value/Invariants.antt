use Rattle.adl_settings.proofs.Common.{digits_value, digits_value_after, drop, ◌<◌, ◌^◌, ◌≡◌}
use Rattle.adl_settings.proofs.allowed.digits_value.Given as goal

abbrev pub invariant-loop-digit : goal.invariant-loop-digit
invariant-loop-digit l = record {
  small : l.value < 10 ^ l.digit-index;
  so_far : digits_value_after 10 l.value (drop l.digit-index l.digits) ≡ digits_value 10 l.digits;
}
