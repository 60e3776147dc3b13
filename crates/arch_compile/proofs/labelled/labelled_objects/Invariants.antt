use Rattle.arch_compile.proofs.Common.{[], gather, label_of, length, take, ◌∷◌, ◌≡◌, ◌≤◌}
use Rattle.std.specs.Prelude.{vec_capacity, vec_len}
use Rattle.arch_compile.proofs.labelled.labelled_objects.Given as goal

abbrev pub invariant-loop-number : goal.invariant-loop-number
invariant-loop-number l = record {
  items : l.objects.items ≡ gather (λ n e. (e.name, label_of l.labels.by_object n) ∷ []) (take l.number l.entries);
  count : vec_len l.objects ≡ l.number;
  room : length l.entries ≤ vec_capacity l.objects;
}
