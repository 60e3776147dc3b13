use Rattle.cap_model.proofs.Common.{IsRowPast, ap, arith, edges_of, refl, slice_get, subst, sym, ℕ, ◌-◌, ◌∙◌}
use Rattle.cap_model.proofs.TableRows.{get_none, get_row, at_past, class_there}
use Rattle.cap_model.proofs.rows.edge_in.Goals as goal

pub returns-then-past-eq0 : goal.returns-then-past-eq0
returns-then-past-eq0 c =
    let none : IsRowPast c.args.rows.now c.args.at 0 = subst (λ (n : ℕ). IsRowPast c.args.rows.now c.args.at n) c.if-past-eq0.true
    c.requires.past in
    sym (get_none c.args.classes.now c.args.rows.now c.args.at c.requires.table.places none)

pub bounds-classes-row : goal.bounds-classes-row
bounds-classes-row c =
    let there = at_past c.args.rows.now c.args.rows.now c.args.at c.args.past c.index-rows-past.result refl c.requires.past
    c.if-past-eq0.false c.index-rows-past.is in
    c.requires.table.classed _ c.index-rows-past.result there.0

pub overflow_sub-at : goal.overflow_sub-at
overflow_sub-at c =
    let there = at_past c.args.rows.now c.args.rows.now c.args.at c.args.past c.index-rows-past.result refl c.requires.past
    c.if-past-eq0.false c.index-rows-past.is in
    there.1.below (c.args.past - 1) c.index-rows-past.result (omega arith) there.0

pub edge_at-requires : goal.edge_at-requires
edge_at-requires c =
    let row = c.index-rows-past.result in
    let class = c.index-classes-row.result in
    let there = at_past c.args.rows.now c.args.rows.now c.args.at c.args.past row refl c.requires.past c.if-past-eq0.false
    c.index-rows-past.is in
    c.requires.table.lists _ class (class_there c.args.classes.now c.args.rows.now c.requires.table _ row class there.0
    c.index-classes-row.is)

pub returns : goal.returns
returns c =
    let row = c.index-rows-past.result in
    let class = c.index-classes-row.result in
    let there = at_past c.args.rows.now c.args.rows.now c.args.at c.args.past row refl c.requires.past c.if-past-eq0.false
    c.index-rows-past.is in
    let of = class_there c.args.classes.now c.args.rows.now c.requires.table _ row class there.0 c.index-classes-row.is in
    c.edge_at.ensures ∙ ap (λ o. slice_get (edges_of o row) (c.args.at - row.first)) (sym of)
    ∙ get_row c.args.classes.now c.args.rows.now c.args.at (c.args.past - 1) row c.requires.table.places there.1 there.0
