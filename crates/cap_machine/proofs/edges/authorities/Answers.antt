use Rattle.cap_machine.proofs.StateEdges.{state_edges}
use Rattle.cap_machine.proofs.edges.authorities.Goals as goal

pub returns : goal.returns
returns c =
    state_edges c.args.spec.now c.args.labels.now.by_object c.args.state.now.state c.in_ok-edges.edges.items c.in_ok-table.table
    (rw c.new.ensures.items at c.in_ok-edges.ensures)
    (rw c.as_slice.ensures.value at c.in_ok-table.ensures.same)
