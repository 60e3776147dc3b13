use Rattle.spec_laws.proofs.FramesInOrder.{frames_in_order}
use Rattle.spec_laws.proofs.laws.frames_stand_in_order.Goals as goal

pub returns : goal.returns
returns c = frames_in_order
