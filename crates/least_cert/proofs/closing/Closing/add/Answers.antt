use Rattle.least_cert.proofs.Common.{length, sym, ◌∙◌}
use Rattle.least_cert.proofs.Growth.{known_adds, not_over, put_adds, put_many}
use Rattle.least_cert.proofs.closing.Closing.add.Goals as goal

pub returns-then-knows-clause-added : goal.returns-then-knows-clause-added
returns-then-knows-clause-added c =
    known_adds c.args.edge c.lead-edge.result c.args.self.now c.requires.sound c.lead-edge.ensures (sym c.knows.ensures
    ∙ c.if-knows.true)

pub returns-then-is_over-clause-refused : goal.returns-then-is_over-clause-refused
returns-then-is_over-clause-refused c =
    put_many c.args.edge c.lead-edge.result c.args.self.now c.put.new.self c.requires.sound c.lead-edge.ensures
    c.in_ok-put.ensures (sym c.knows.ensures ∙ c.if-knows.false) c.requires.least c.is_over.ensures.sorted
    (c.is_over.ensures.over.0 c.if-is_over.true)

pub returns-clause-added : goal.returns-clause-added
returns-clause-added c =
    put_adds c.args.edge c.lead-edge.result c.args.self.now c.put.new.self c.requires.sound c.lead-edge.ensures
    c.in_ok-put.ensures (sym c.knows.ensures ∙ c.if-knows.false) c.requires.least
    (not_over c.is_over.result (length c.put.new.self.known) c.is_over.ensures.over c.if-is_over.false)
