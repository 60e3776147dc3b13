use Rattle.cap_model.specs.EdgesLeft.{edges_left}
use Rattle.view_text.proofs.Common.{arrow_of, gather, ◌++◌, ◌≡◌}
use Rattle.view_text.proofs.picture.add_arrows.Given as goal

abbrev pub invariant-loop-edge : goal.invariant-loop-edge
invariant-loop-edge l = l.text ++ gather (λ at e. arrow_of l.shapes l.edges e) (edges_left l.edge-iterator)
    ≡ l.fn.text ++ gather (λ at e. arrow_of l.shapes l.edges e) l.edges
