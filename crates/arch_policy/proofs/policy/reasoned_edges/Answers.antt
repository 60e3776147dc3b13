use Rattle.arch_policy.proofs.Common.{ap, direct_edges, handle_edges, lock_edges, reply_edges, signal_edges, told, ◌++◌, ◌∙◌}
use Rattle.arch_policy.proofs.Counted.{collected_few}
use Rattle.arch_policy.proofs.policy.reasoned_edges.Goals as goal

pub returns : goal.returns
returns c =
    let t = told c.args.tables.now in
    collected_few (direct_edges t) (reply_edges t) (handle_edges t) (signal_edges t ++ lock_edges t) c.in_ok-handlers.handlers
    c.in_ok-signallers.signallers c.push_crossed_edges.new.edges c.push_bound.new.edges
    c.in_ok-handlers.ensures c.in_ok-signallers.ensures (c.in_ok-push_crossed_edges.ensures ∙ ap (λ z. z ++ reply_edges t)
    c.in_ok-edges.ensures) c.in_ok-push_bound.ensures
