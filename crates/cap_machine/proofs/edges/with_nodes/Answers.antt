use Rattle.cap_machine.proofs.Common.{Node, OfNode, label_of, refl, slice_get_read}
use Rattle.cap_machine.proofs.Gathering.{first_more, all_first}
use Rattle.cap_machine.proofs.edges.with_nodes.Goals as goal

pub loop-place-preserved : goal.loop-place-preserved
loop-place-preserved c =
    first_more (λ k (node : Node). OfNode c.args.spec.now c.args.labels.now.by_object (label_of c.args.labels.now.by_object k)
    node) c.args.nodes.now c.loop-place.place c.index-nodes-place.result
    _ _ _ (slice_get_read c.args.nodes.now _ c.loop-place.place c.index-nodes-place.result refl c.loop-place-test.true
    c.index-nodes-place.is)
    c.loop-place.invariant (rw c.as_slice-from.ensures at c.in_ok-edges.ensures)

pub returns : goal.returns
returns c =
    all_first (λ k (node : Node). OfNode c.args.spec.now c.args.labels.now.by_object (label_of c.args.labels.now.by_object k)
    node) c.args.nodes.now c.loop-place.place _ _ c.loop-place-test.false c.loop-place.invariant
