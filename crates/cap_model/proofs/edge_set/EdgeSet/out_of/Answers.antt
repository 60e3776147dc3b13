use Rattle.cap_model.proofs.Ranges.{all_forward, label_out, out_label}
use Rattle.cap_model.proofs.edge_set.EdgeSet.out_of.Goals as goal

pub between-requires : goal.between-requires
between-requires c = all_forward c.args.label

pub returns-clause-from : goal.returns-clause-from
returns-clause-from c = λ e h.
    let b = (c.in_ok-edges.ensures.between e).0 h in
    (b.there, out_label c.args.label e b.above b.below)

pub returns-clause-every : goal.returns-clause-every
returns-clause-every c = λ e h is less.
    let b = label_out c.args.label e is less in
    (c.in_ok-edges.ensures.between e).1 (record { there = h; above = b.0; below = b.1 })
