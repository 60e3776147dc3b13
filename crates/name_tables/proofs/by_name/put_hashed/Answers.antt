use Rattle.name_tables.proofs.Common.{ap, found, is_some, sym, ◌∙◌}
use Rattle.name_tables.proofs.NameLookups.{found-entries, found_put, found_again, entries_put}
use Rattle.name_tables.proofs.by_name.put_hashed.Goals as goal

pub returns-in_default-clause-met : goal.returns-in_default-clause-met
returns-in_default-clause-met g c =
    sym (ap is_some (found-entries c.args.entries.now.entries c.args.bytes.now ∙ sym c.in_ok-first.ensures.old ∙ c.in_default.is))

pub returns-in_default-clause-found : goal.returns-in_default-clause-found
returns-in_default-clause-found g c =
    let es = c.args.entries.now.entries in
    let key = c.args.bytes.now in
    found_put (found es) (found c.insert.new.self.entries) key c.args.value (sym (returns-in_default-clause-met g c))
    (entries_put es c.insert.new.self.entries key c.args.value (λ q. c.in_ok-first.ensures.updates.0 q))

pub returns-clause-met : goal.returns-clause-met
returns-clause-met g c =
    sym (ap is_some (found-entries c.args.entries.now.entries c.args.bytes.now ∙ sym c.in_ok-first.ensures.old ∙ c.in-Some.is))

pub returns-clause-found : goal.returns-clause-found
returns-clause-found g c =
    let es = c.args.entries.now.entries in
    let key = c.args.bytes.now in
    let middle = c.insert.new.self.entries in
    found_again (found es) (found middle) (found c.insert-2.new.self.entries) key c.args.value c.in-Some.first
    (found-entries es key ∙ sym c.in_ok-first.ensures.old ∙ c.in-Some.is)
    (entries_put es middle key c.args.value (λ q. c.in_ok-first.ensures.updates.0 q))
    (entries_put middle c.insert-2.new.self.entries key c.in-Some.first (λ q. c.in_ok-insert.ensures.updates.0 q))
