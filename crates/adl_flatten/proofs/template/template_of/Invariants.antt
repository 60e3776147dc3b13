use Rattle.adl_flatten.proofs.TemplateCommon.{body, flat_map, leaves_before, leaves_by, length, slice_index, take, ℕ, ◌<◌, ◌≡◌}
use Rattle.adl_flatten.proofs.template.template_of.Given as goal

abbrev pub invariant-loop-part : goal.invariant-loop-part
invariant-loop-part l = record {
  leaves : l.leaves.items ≡ flat_map (leaves_by l.program) (take l.part-index (body l.program l.number).parts);
  count : length l.before.items ≡ l.part-index;
  each : (i : ℕ) → i < l.part-index → slice_index l.before.items i ≡ leaves_before l.program l.number i;
}
