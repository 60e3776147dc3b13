use Rattle.cam_io.proofs.Common.{Says, flat_map, length, take, drop, ◌+◌, ◌≤◌}
use Rattle.arrayvec.specs.ArrayVec.{array_vec_len}
use Rattle.cam_io.proofs.writer.Writer.wait.Given as goal

abbrev pub invariant-loop-text : goal.invariant-loop-text
invariant-loop-text g l = record {
  says : Says l.fn.self (flat_map (λ t. t.now) (take l.text-index l.texts)) l.self;
  room : array_vec_len l.self.waiting + length (flat_map (λ t. t.now) (drop l.text-index l.texts)) ≤ 65536;
}
