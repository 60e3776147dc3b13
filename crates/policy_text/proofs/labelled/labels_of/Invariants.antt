use Rattle.policy_text.proofs.Common.{List, drop, object_label, option_or, spread_found, ℕ, ◌≡◌}
use Rattle.policy_text.proofs.labelled.labels_of.Given as goal

abbrev pub invariant-loop-object : goal.invariant-loop-object
invariant-loop-object l = (name : List ℕ)
    → option_or (spread_found l.table name) (object_label (drop l.object-index l.objects) name) ≡ object_label l.objects name
