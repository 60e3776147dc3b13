use Rattle.cap_model.proofs.Common.{edge}
use Rattle.cap_model.proofs.Ranges.{label_with, with_forward, with_label}
use Rattle.cap_model.proofs.edge_set.EdgeSet.out_with.Goals as goal

pub between-requires : goal.between-requires
between-requires c = with_forward c.args.label c.args.authority

pub returns-clause-from : goal.returns-clause-from
returns-clause-from c = λ e h.
    let b = (c.in_ok-edges.ensures.between e).0 h in
    let is = with_label c.args.label c.args.authority e b.above b.below in
    (b.there, is.0, is.1)

pub returns-clause-every : goal.returns-clause-every
returns-clause-every c = λ m h less.
    let b = label_with c.args.label c.args.authority m less in
    (c.in_ok-edges.ensures.between (edge c.args.label c.args.authority m)).1 (record { there = h; above = b.0; below = b.1 })
