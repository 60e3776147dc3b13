use Rattle.cam_io.proofs.Common.{Says, flat_map, take}
use Rattle.cam_io.proofs.writer.Writer.texts_behind.Given as goal

abbrev pub invariant-loop-text : goal.invariant-loop-text
invariant-loop-text g l = Says l.fn.self (flat_map (λ t. t.now) (take l.text-index l.texts)) l.self
