use Rattle.system_spec.proofs.Common.{List, Part, entry, gather, map, part_label, take, told, ◌≡◌}
use Rattle.system_spec.proofs.made.system_of.Given as goal

abbrev pub invariant-loop-section : goal.invariant-loop-section
invariant-loop-section l = record {
  entries : l.entries ≡ gather (λ k (ps : List Part). map (entry (told l.tables)) ps) (take l.section-index l.others);
  labels : l.by_object ≡ gather (λ k (ps : List Part). map (part_label (told l.tables)) ps) (take l.section-index l.others);
}
