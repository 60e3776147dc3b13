use Rattle.domain_table.proofs.Common.{DomainTables, List, ap, named, tables_in, tables_text, ℕ, ◌++◌, ◌∙◌}
use Rattle.domain_table.proofs.table.tables_of.Goals as goal

pub returns : goal.returns
returns c =
    c.in_ok-add_tables.ensures ∙ ap (λ (t : DomainTables). c.in_ok-text.text ++ tables_text t) c.in_ok-tables.ensures
    ∙ ap (λ (h : List ℕ). h ++ tables_text (tables_in (named c.args.names.now) c.args.lines.now c.args.domain))
    c.in_ok-text.ensures
