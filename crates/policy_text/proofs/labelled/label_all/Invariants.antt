use Rattle.policy_text.proofs.Common.{Some, drop, first_unlabelled, map, spread_found, take, ℕ, ◌≡◌}
use Rattle.cap_model.specs.declared.spec.Entry.{Entry}
use Rattle.policy_text.proofs.labelled.label_all.Given as goal

abbrev pub invariant-loop-entry : goal.invariant-loop-entry
invariant-loop-entry l = record {
  labels : map (λ (n : ℕ). Some n) l.labels ≡ map (λ (e : Entry). spread_found l.table e.name) (take l.entry-index l.entries);
  none : first_unlabelled (spread_found l.table) (drop l.entry-index l.entries) ≡ first_unlabelled
      (spread_found l.table) l.entries;
}
