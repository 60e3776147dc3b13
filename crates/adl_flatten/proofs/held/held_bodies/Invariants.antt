use Rattle.adl_flatten.proofs.TemplateCommon.{AreHeld, take}
use Rattle.adl_flatten.proofs.held.held_bodies.Given as goal

abbrev pub invariant-loop-left : goal.invariant-loop-left
invariant-loop-left l = AreHeld l.program (take l.left l.order) l.held.items
