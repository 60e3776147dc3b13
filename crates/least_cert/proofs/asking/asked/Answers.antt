use Rattle.least_cert.proofs.Asks.{asked_handle, asked_send}
use Rattle.least_cert.proofs.asking.asked.Goals as goal

pub returns-in_ok-edges-in-Handle : goal.returns-in_ok-edges-in-Handle
returns-in_ok-edges-in-Handle c =
    asked_handle c.args.closing.now c.requires.sound c.args.edge c.requires.known c.in_ok-peers-in-Handle.peers.items
    c.in_ok-edges-in-Handle.edges.items c.in-Handle.is c.in_ok-peers-in-Handle.ensures
    (rw c.as_slice.ensures.value at c.in_ok-edges-in-Handle.ensures)

pub returns-in_ok-edges-in-AsyncSend : goal.returns-in_ok-edges-in-AsyncSend
returns-in_ok-edges-in-AsyncSend c =
    asked_send c.args.closing.now c.requires.sound c.args.edge c.requires.known c.in_ok-peers-in-AsyncSend.peers.items
    c.in_ok-edges-in-AsyncSend.edges.items c.in-AsyncSend.is c.in_ok-peers-in-AsyncSend.ensures
    (rw c.as_slice-in-AsyncSend.ensures.value at c.in_ok-edges-in-AsyncSend.ensures)
