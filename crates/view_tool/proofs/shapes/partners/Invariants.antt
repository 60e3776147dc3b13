use Rattle.cap_model.specs.EdgesLeft.{edges_left}
use Rattle.view_tool.proofs.PageCommon.{gather, partner, ◌++◌, ◌≡◌}
use Rattle.view_tool.proofs.shapes.partners.Given as goal

abbrev pub invariant-loop-edge : goal.invariant-loop-edge
invariant-loop-edge l = l.found ++ gather (λ at e. partner l.shapes l.label e) (edges_left l.edge-iterator)
    ≡ gather (λ at e. partner l.shapes l.label e) l.edges
