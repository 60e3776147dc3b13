use Rattle.view_text.proofs.Common.{arrow_line, gather, note_at, take, ◌++◌, ◌≡◌}
use Rattle.view_text.proofs.graph.add_arrows.Given as goal

abbrev pub invariant-loop-at : goal.invariant-loop-at
invariant-loop-at l = l.text ≡ l.fn.text ++ gather (λ at e. arrow_line (note_at l.notes at) e) (take l.at l.edges)
