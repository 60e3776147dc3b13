use Rattle.least_cert.proofs.Asks.{gifts_call, gifts_grant, gifts_grant_back, gifts_receive}
use Rattle.least_cert.proofs.asking.gifts.Goals as goal

pub returns-in_ok-gifts-in-Grant : goal.returns-in_ok-gifts-in-Grant
returns-in_ok-gifts-in-Grant c =
    gifts_grant c.args.closing.now c.requires.sound c.args.edge c.requires.known c.in_ok-peers-in-Grant.peers.items
    c.in_ok-gifts-in-Grant.gifts.items c.in-Grant.is c.in_ok-peers-in-Grant.ensures
    (rw c.as_slice.ensures.value at c.in_ok-gifts-in-Grant.ensures)

pub returns-in_ok-gifts-in-Receive : goal.returns-in_ok-gifts-in-Receive
returns-in_ok-gifts-in-Receive c =
    gifts_receive c.args.closing.now c.requires.sound c.args.edge c.requires.known c.in_ok-peers-in-Receive.peers.items
    c.in_ok-gifts-in-Receive.gifts.items c.in-Receive.is c.in_ok-peers-in-Receive.ensures
    (rw c.as_slice-in-Receive.ensures.value at c.in_ok-gifts-in-Receive.ensures)

pub returns-in_ok-gifts-in-Call : goal.returns-in_ok-gifts-in-Call
returns-in_ok-gifts-in-Call c =
    gifts_call c.args.closing.now c.requires.sound c.args.edge c.requires.known c.in_ok-peers-in-Call.peers.items
    c.in_ok-gifts-in-Call.gifts.items c.in-Call.is c.in_ok-peers-in-Call.ensures
    (rw c.as_slice-in-Call.ensures.value at c.in_ok-gifts-in-Call.ensures)

pub returns-in_ok-gifts-in-GrantBack : goal.returns-in_ok-gifts-in-GrantBack
returns-in_ok-gifts-in-GrantBack c =
    gifts_grant_back c.args.closing.now c.requires.sound c.args.edge c.requires.known c.in_ok-peers-in-GrantBack.peers.items
    c.in_ok-gifts-in-GrantBack.gifts.items c.in-GrantBack.is c.in_ok-peers-in-GrantBack.ensures
    (rw c.as_slice-in-GrantBack.ensures.value at c.in_ok-gifts-in-GrantBack.ensures)
