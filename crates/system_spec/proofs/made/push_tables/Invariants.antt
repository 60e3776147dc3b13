use Rattle.system_spec.proofs.Common.{Part, [], entry, gather, length, part_label, take, told, ◌++◌, ◌∷◌, ◌≡◌}
use Rattle.system_spec.proofs.made.push_tables.Given as goal

abbrev pub invariant-loop-object : goal.invariant-loop-object
invariant-loop-object l = record {
  count : l.place ≡ length l.yielded;
  entries : l.entries ≡ l.fn.entries ++ gather (λ n (p : Part). entry (told l.tables) p ∷ []) (take l.place l.parts);
  labels : l.labels ≡ l.fn.labels ++ gather (λ n (p : Part). part_label (told l.tables) p ∷ []) (take l.place l.parts);
}
