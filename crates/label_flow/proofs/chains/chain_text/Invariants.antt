use Rattle.label_flow.proofs.Common.{[], codes, decimal, edge_line, flat_map, length, take, ◌++◌, ◌∷◌, ◌≡◌}
use Rattle.cam_base.specs.Texts.{together}
use Rattle.label_flow.proofs.chains.chain_text.Given as goal

abbrev pub invariant-loop-edge : goal.invariant-loop-edge
invariant-loop-edge l =
    l.text ≡ together (codes "flow " ∷ decimal (length l.chain) ∷ codes " edges\n" ∷ [])
    ++ flat_map (edge_line [] l.policy.labels) (take l.edge-index l.chain)
