use Rattle.policy_text.proofs.Common.{IsSmall, contains, is_some, label_name, nat_cmp, take, ℕ, ◌≡◌}
use Rattle.policy_text.proofs.known.numbers_of.Given as goal

abbrev pub invariant-loop-label : goal.invariant-loop-label
invariant-loop-label l = record {
  each : (n : ℕ) → contains nat_cmp l.numbers n ≡ is_some (label_name (take l.label-index l.labels) n);
  small : IsSmall l.numbers;
}
