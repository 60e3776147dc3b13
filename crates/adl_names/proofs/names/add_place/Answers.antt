use Rattle.adl_names.proofs.Common.{Some, ap, append_assoc, bytes_eq, cond, found_put, get, insert_entry, insert_entry-new, map-append, sym, ◌∙◌}
use Rattle.cam_base.proofs.Options.{is_none}
use Rattle.adl_names.proofs.names.add_place.Goals as goal

pub returns-in_ok-insert-clause-first : goal.returns-in_ok-insert-clause-first
returns-in_ok-insert-clause-first c =
    found_put (get bytes_eq c.args.table.now) (get bytes_eq c.insert.new.self) c.args.name.now c.args.at
    (sym c.contains_key.ensures ∙ c.if-not-contains_key.true)
    (λ q. c.in_ok-insert.ensures.updates.0 q ∙ ap (λ n. cond (bytes_eq n q) (Some c.args.at) (get bytes_eq c.args.table.now q))
    c.in_ok-copy.ensures)

pub returns-in_ok-insert-clause-rises : goal.returns-in_ok-insert-clause-rises
returns-in_ok-insert-clause-rises c =
    let absent = is_none (get bytes_eq c.args.table.now c.args.name.now) (sym c.contains_key.ensures
    ∙ c.if-not-contains_key.true) in
    let grown = c.in_ok-insert.ensures.entries ∙ ap (λ k. insert_entry bytes_eq c.args.table.now.entries k c.args.at)
    c.in_ok-copy.ensures ∙ insert_entry-new bytes_eq c.args.table.now c.args.name.now c.args.at absent in
    λ more h. rw (grown, map-append, append_assoc) h
