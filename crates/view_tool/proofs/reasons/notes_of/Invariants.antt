use Rattle.view_tool.proofs.Common.{AreNotes, take, told}
use Rattle.view_tool.proofs.reasons.notes_of.Given as goal

abbrev pub invariant-loop-at : goal.invariant-loop-at
invariant-loop-at l = AreNotes (told l.grounds) (take l.at l.grounds.policy.now.edges) l.notes
