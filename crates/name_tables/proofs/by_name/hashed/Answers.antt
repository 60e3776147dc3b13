use Rattle.name_tables.proofs.Common.{[], ap, found, is_none, option_map_or, sym, ◌∙◌}
use Rattle.name_tables.proofs.NameLookups.{found-entries}
use Rattle.name_tables.proofs.by_name.hashed.Goals as goal

pub returns-in-None : goal.returns-in-None
returns-in-None g c =
    sym (is_none _ (sym c.in-None.ensures.found)) ∙ sym (found-entries c.in_ok-entries.entries.now.entries c.args.bytes.now)
    ∙ ap (λ o. found (option_map_or (λ m. m.entries) o []) c.args.bytes.now) c.in_ok-entries.ensures.value

pub returns-in-Some : goal.returns-in-Some
returns-in-Some g c =
    sym c.index.ensures ∙ c.in-Some.ensures.value ∙ sym (found-entries c.in_ok-entries.entries.now.entries c.args.bytes.now)
    ∙ ap (λ o. found (option_map_or (λ m. m.entries) o []) c.args.bytes.now) c.in_ok-entries.ensures.value
