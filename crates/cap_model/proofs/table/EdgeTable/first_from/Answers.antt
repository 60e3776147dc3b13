use Rattle.cap_model.proofs.Common.{Edge, IsFirstFrom, IsRowFrom, List, Row, Some, length, refl, slice_get, slice_get_read, subst, sym, table_edges, ℕ, ◌≡◌, ◌≤◌}
use Rattle.cap_model.proofs.TableRows.{place_from, place_past}
use Rattle.cap_model.proofs.table.EdgeTable.first_from.Goals as goal

pub returns-in-Some-clause-first : goal.returns-in-Some-clause-first
returns-in-Some-clause-first c =
    let h = c.in-Some.ensures.lookup in
    let there = slice_get_read c.deref.result.now (length c.deref.result.now) c.rows_below.result c.in-Some.row.now
    refl h.3.0 h.1 in
    subst (λ (es : List Edge). IsFirstFrom es c.args.label c.in-Some.row.now.first) c.self.view_is
    (place_from c.self.inside.classes.items c.self.inside.rows.items c.args.label c.rows_below.result c.in-Some.row.now
    c.self.invariant.0.places
    (subst (λ (rs : List Row). IsRowFrom rs c.args.label c.rows_below.result) c.as_slice.ensures.value c.rows_below.ensures)
    (subst (λ (rs : List Row). slice_get rs c.rows_below.result ≡ Some c.in-Some.row.now) c.deref.ensures.value there))

pub returns-in-None-clause-first : goal.returns-in-None-clause-first
returns-in-None-clause-first c =
    let past : length c.self.inside.rows.items ≤ c.rows_below.result = subst (λ (rs : List Row). length rs ≤ c.rows_below.result)
    c.deref.ensures.value c.in-None.ensures.lookup.3 in
    subst (λ (es : List Edge). IsFirstFrom es c.args.label c.self.inside.len) c.self.view_is
    (subst (λ (n : ℕ). IsFirstFrom (table_edges c.self.inside.classes.items c.self.inside.rows.items) c.args.label n)
    (sym c.self.invariant.1)
    (place_past c.self.inside.classes.items c.self.inside.rows.items c.args.label c.rows_below.result
    (subst (λ (rs : List Row). IsRowFrom rs c.args.label c.rows_below.result) c.as_slice.ensures.value c.rows_below.ensures)
    past))
