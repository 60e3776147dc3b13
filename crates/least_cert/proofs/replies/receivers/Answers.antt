use Rattle.least_cert.proofs.Spreading.{are_receivers}
use Rattle.least_cert.proofs.replies.receivers.Goals as goal

pub returns : goal.returns
returns c =
    are_receivers c.args.edges.now c.in_ok-turned.turned.items c.in_ok-receivers.receivers c.in_ok-turned.ensures
    (rw (c.new.ensures, c.as_slice.ensures.value) at c.in_ok-receivers.ensures)
