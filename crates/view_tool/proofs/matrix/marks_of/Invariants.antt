use Rattle.view_tool.proofs.PageCommon.{gather, mark_at, take, ◌≡◌}
use Rattle.view_tool.proofs.matrix.marks_of.Given as goal

abbrev pub invariant-loop-at : goal.invariant-loop-at
invariant-loop-at l = l.marks ≡ gather (mark_at l.notes) (take l.at l.edges)
