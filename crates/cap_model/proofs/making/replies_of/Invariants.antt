use Rattle.cap_model.proofs.Common.{map, take, ◌≡◌}
use Rattle.cap_model.proofs.making.replies_of.Given as goal

abbrev pub invariant-loop-edge : goal.invariant-loop-edge
invariant-loop-edge l = l.replies.items ≡ map (λ e. e.to) (take l.edge-index l.run)
