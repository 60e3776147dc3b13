use Rattle.cam_base.proofs.Common.{fields, length, parts_from, take, texts, vec_len, ◌++◌, ◌+◌, ◌-◌, ◌≡◌, ◌≤◌}
use Rattle.cam_base.proofs.field.fields.Given as goal

abbrev pub invariant-loop-at : goal.invariant-loop-at
invariant-loop-at l = record {
  within : l.at ≤ length l.line + 1;
  few : vec_len l.fields ≤ l.most;
  so_far : texts l.fields.items ++ take (l.most - vec_len l.fields) (parts_from 32 l.at l.line) ≡ take l.most (fields l.line);
}

abbrev pub decreases-loop-at : goal.decreases-loop-at
decreases-loop-at l = length l.line + 1 - l.at
