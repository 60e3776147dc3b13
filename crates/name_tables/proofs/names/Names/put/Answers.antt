use Rattle.name_tables.proofs.Common.{ap, are_digested, is_some, sym, ◌∙◌}
use Rattle.name_tables.proofs.Ordered.{digested_put, entry_put, fits, is_some-option_copied}
use Rattle.name_tables.proofs.names.Names.put.Goals as goal

pub invariant_of-self-2 : goal.invariant_of-self-2
invariant_of-self-2 g c =
    ap are_digested c.in_ok-insert.ensures.entries
    ∙ digested_put c.self.inside.entries.entries (c.args.number, c.args.name) c.args.value c.self.invariant
    (fits c.args.number c.args.name.now c.requires.digested)

pub returns-clause-found : goal.returns-clause-found
returns-clause-found g c =
    entry_put c.self.inside.entries.entries c.insert.new.self.entries c.args.self.now (c.args.number, c.args.name) c.args.value
    c.self.view_is c.self.invariant (invariant_of-self-2 g c)
    (fits c.args.number c.args.name.now c.requires.digested)
    (ap is_some (sym c.find.ensures) ∙ is_some-option_copied c.find.result ∙ sym c.is_some.ensures ∙ c.if-is_some.false)
    (λ q. c.in_ok-insert.ensures.updates.0 q)
