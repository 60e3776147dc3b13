use Rattle.name_tables.proofs.Common.{ap, bytes_eq, is_among, is_some, is_some-option_or, sym, ◌||◌, ◌∙◌}
use Rattle.name_tables.proofs.NameLookups.{among_found}
use Rattle.name_tables.proofs.by_name.NameSet.put.Goals as goal

pub returns-clause-met : goal.returns-clause-met
returns-clause-met c = c.in_ok-met.ensures.met ∙ sym (among_found c.self.inside.names c.args.name.now)
    ∙ ap (λ s. is_among s c.args.name.now) c.self.view_is

pub returns-clause-names : goal.returns-clause-names
returns-clause-names c = λ n.
    among_found c.put.new.self n ∙ ap is_some (c.in_ok-met.ensures.found n) ∙ is_some-option_or _ (bytes_eq n c.args.name.now) _
    ∙ ap (λ b. b || bytes_eq n c.args.name.now) (sym (among_found c.self.inside.names n) ∙ ap (λ s. is_among s n) c.self.view_is)
