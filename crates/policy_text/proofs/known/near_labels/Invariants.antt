use Rattle.policy_text.proofs.Common.{is_some, label_name, take, true, ℕ, ◌<◌, ◌≡◌}
use Rattle.policy_text.proofs.known.near_labels.Given as goal

abbrev pub invariant-loop-label : goal.invariant-loop-label
invariant-loop-label l = (n : ℕ) → n < l.near → is_some (label_name (take l.label-index l.labels) n) ≡ true
