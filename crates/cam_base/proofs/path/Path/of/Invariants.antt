use Rattle.cam_base.proofs.Common.{length, take, ◌++◌, ◌+◌, ◌≡◌}
use Rattle.std.specs.Prelude.{max}
use Rattle.cam_base.proofs.path.Path.of.Given as goal

abbrev pub invariant-loop-name : goal.invariant-loop-name
invariant-loop-name l = record {
  items : l.all.items ≡ take l.name-index l.names;
  room : l.all.capacity ≡ max 4 (length l.names + length l.more);
}

abbrev pub invariant-loop-behind : goal.invariant-loop-behind
invariant-loop-behind l = record {
  items : l.all.items ≡ l.names ++ take l.behind-index l.more;
  room : l.all.capacity ≡ max 4 (length l.names + length l.more);
}
