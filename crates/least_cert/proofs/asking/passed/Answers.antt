use Rattle.least_cert.proofs.Asks.{are_passed}
use Rattle.least_cert.proofs.asking.passed.Goals as goal

pub returns : goal.returns
returns c =
    are_passed c.args.closing.now c.requires.sound c.args.edge c.requires.known c.in_ok-gifts.gifts.items
    c.in_ok-edges.edges.items c.in_ok-gifts.ensures (rw c.as_slice.ensures.value at c.in_ok-edges.ensures)
