use Rattle.system_spec.proofs.Common.{drop, entry, map, part_label, told, ◌++◌, ◌≡◌}
use Rattle.system_spec.proofs.made.push_objects.Given as goal

abbrev pub invariant-loop-part : goal.invariant-loop-part
invariant-loop-part l = record {
  entries : l.entries ++ map (entry (told l.tables)) (drop l.part-index l.parts) ≡ l.fn.entries
      ++ map (entry (told l.tables)) l.parts;
  labels : l.labels ++ map (part_label (told l.tables)) (drop l.part-index l.parts) ≡ l.fn.labels
      ++ map (part_label (told l.tables)) l.parts;
}
