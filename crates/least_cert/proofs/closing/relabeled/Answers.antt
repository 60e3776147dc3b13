use Rattle.least_cert.proofs.Leading.{is_relabeled, widens_same}
use Rattle.least_cert.proofs.closing.relabeled.Goals as goal

pub returns : goal.returns
returns c =
    is_relabeled c.args.from c.args.to c.args.leaders.now c.in_ok-wide.wide.items c.in_ok-new.new.items
    (widens_same c.args.from c.args.leaders.now _ c.in_ok-wide.wide.items c.in_ok-same.ensures c.in_ok-wide.ensures)
    (rw c.as_slice.ensures.value at c.in_ok-new.ensures)
