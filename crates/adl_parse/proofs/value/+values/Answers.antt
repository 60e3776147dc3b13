use Rattle.adl_parse.proofs.Common.{[], behind, entries_line, entry_form, err_from_is_err_and, fails, goes_on, is_done, mark_code, nests, sym, token_code, value_form, values_line, ◌∙◌, ◌∷◌}
use Rattle.cam_base.specs.declared.token.Mark.TheVariants as marks
use Rattle.adl_ast.proofs.Eats.{next_value_eats, next_entry_eats}
use Rattle.adl_parse.proofs.value.+values.Goals as goal

pub values-returns-in_err-item : goal.values-returns-in_err-item
values-returns-in_err-item t c =
    let r = nests c.args.room (behind (mark_code marks.Comma) value_form) in
    let p = err_from_is_err_and c.from_residual-in_err-item.result c.from_residual-in_err-item.ensures.1 in
    rw (p.1, p.2) (fails token_code (mark_code marks.Comma ∷ []) r (next_value_eats c.args.room) c.in_err-item.field-0.0
    c.more.items c.more.at (nests c.args.room values_line c.args.at.now) (sym c.next_is.ensures ∙ c.more-test.true)
    c.in_err-item.ensures c.more.invariant)

pub values-more-smaller : goal.values-more-smaller
values-more-smaller t c = next_value_eats c.args.room c.more.at (c.in_ok-item.item, c.next_value.new.at) c.in_ok-item.ensures

pub values-more-preserved : goal.values-more-preserved
values-more-preserved t c =
    let r = nests c.args.room (behind (mark_code marks.Comma) value_form) in
    rw c.in_ok-push-2.ensures.ok (goes_on token_code (mark_code marks.Comma ∷ []) r (next_value_eats c.args.room) c.more.items
    c.more.at c.in_ok-item.item c.next_value.new.at (nests c.args.room values_line c.args.at.now) (sym c.next_is.ensures ∙
    c.more-test.true) c.in_ok-item.ensures c.more.invariant)

pub values-returns : goal.values-returns
values-returns t c =
    let r = nests c.args.room (behind (mark_code marks.Comma) value_form) in
    rw c.fitted.ensures (is_done token_code (mark_code marks.Comma ∷ []) r (next_value_eats c.args.room) c.more.items c.more.at
    (nests c.args.room values_line c.args.at.now) (sym c.next_is.ensures ∙ c.more-test.false) c.more.invariant)

pub entries-returns-in_err-item : goal.entries-returns-in_err-item
entries-returns-in_err-item t c =
    let r = nests c.args.room (behind (mark_code marks.Comma) entry_form) in
    let p = err_from_is_err_and c.from_residual-in_err-item.result c.from_residual-in_err-item.ensures.1 in
    rw (p.1, p.2) (fails token_code (mark_code marks.Comma ∷ []) r (next_entry_eats c.args.room) c.in_err-item.field-0.0
    c.more.items c.more.at (nests c.args.room entries_line c.args.at.now) (sym c.next_is-in-more.ensures ∙ c.more-test.true)
    c.in_err-item.ensures c.more.invariant)

pub entries-more-smaller : goal.entries-more-smaller
entries-more-smaller t c = next_entry_eats c.args.room c.more.at (c.in_ok-item.item, c.next_entry.new.at) c.in_ok-item.ensures

pub entries-more-preserved : goal.entries-more-preserved
entries-more-preserved t c =
    let r = nests c.args.room (behind (mark_code marks.Comma) entry_form) in
    rw c.in_ok-push-2.ensures.ok (goes_on token_code (mark_code marks.Comma ∷ []) r (next_entry_eats c.args.room) c.more.items
    c.more.at c.in_ok-item.item c.next_entry.new.at (nests c.args.room entries_line c.args.at.now) (sym c.next_is-in-more.ensures
    ∙ c.more-test.true) c.in_ok-item.ensures c.more.invariant)

pub entries-returns : goal.entries-returns
entries-returns t c =
    let r = nests c.args.room (behind (mark_code marks.Comma) entry_form) in
    rw c.fitted.ensures (is_done token_code (mark_code marks.Comma ∷ []) r (next_entry_eats c.args.room) c.more.items c.more.at
    (nests c.args.room entries_line c.args.at.now) (sym c.next_is-in-more.ensures ∙ c.more-test.false) c.more.invariant)
