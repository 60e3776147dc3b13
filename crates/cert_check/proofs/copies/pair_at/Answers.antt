use Rattle.cert_check.proofs.Alike.{none_breaks}
use Rattle.cert_check.proofs.copies.pair_at.Goals as goal

pub returns-then-same_class : goal.returns-then-same_class
returns-then-same_class c = none_breaks c.args.cert.now c.args.edge.now c.args.low c.args.high
    (c.same_class.ensures c.if-same_class.true)
