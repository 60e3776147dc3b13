use Rattle.cam_io.proofs.Common.{flat_map, length, take, ◌≡◌}
use Rattle.std.specs.Prelude.{min, ◌-◌, ◌^◌}
use Rattle.cam_io.proofs.writer.bytes_of.Given as goal

abbrev pub invariant-loop-text : goal.invariant-loop-text
invariant-loop-text l = l.count ≡ min (length (flat_map (λ t. t.now) (take l.text-index l.texts))) (2 ^ 64 - 1)
