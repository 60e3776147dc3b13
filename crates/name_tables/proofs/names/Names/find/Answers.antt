use Rattle.name_tables.proofs.Common.{ap, found, ◌∙◌}
use Rattle.name_tables.proofs.Ordered.{fits, found_entry}
use Rattle.name_tables.proofs.names.Names.find.Goals as goal

pub returns : goal.returns
returns g c =
    c.get.ensures.value ∙ found_entry c.self.inside.entries.entries (c.args.number, c.args.name) c.self.invariant
    (fits c.args.number c.args.name.now c.requires) ∙ ap (λ s. found s c.args.name.now) c.self.view_is
