use Rattle.cap_model.proofs.Common.{Edge, List, ap, edges_of, has, sym, ◌∙◌}
use Rattle.cap_model.proofs.TableRows.{row_in, none_in, class_there, has_of_row, lacks_row}
use Rattle.cap_model.proofs.table.EdgeTable.contains.Goals as goal

pub has_edge-requires-clause-class : goal.has_edge-requires-clause-class
has_edge-requires-clause-class c =
    let row = row_in c.as_slice.result.now c.self.inside.rows.items c.args.edge.now.from c.in-Some.row.now
    c.as_slice.ensures.value c.in-Some.ensures.found in
    c.self.invariant.0.lists _ c.index.result.now (class_there c.self.inside.classes.items c.self.inside.rows.items
    c.self.invariant.0 row.0 c.in-Some.row.now c.index.result.now row.1 c.index.ensures)

pub returns-in-Some : goal.returns-in-Some
returns-in-Some c =
    let row = row_in c.as_slice.result.now c.self.inside.rows.items c.args.edge.now.from c.in-Some.row.now
    c.as_slice.ensures.value c.in-Some.ensures.found in
    let class = class_there c.self.inside.classes.items c.self.inside.rows.items c.self.invariant.0 row.0 c.in-Some.row.now
    c.index.result.now row.1 c.index.ensures in
    c.has_edge.ensures ∙ ap (λ o. has (edges_of o c.in-Some.row.now) c.args.edge.now) (sym class)
    ∙ has_of_row c.self.inside.classes.items c.self.inside.rows.items row.0 c.in-Some.row.now c.args.edge.now
    c.self.invariant.0.rising row.1 row.2
    ∙ ap (λ (es : List Edge). has es c.args.edge.now) c.self.view_is

pub returns-in-None : goal.returns-in-None
returns-in-None c =
    sym (lacks_row c.self.inside.classes.items c.self.inside.rows.items c.args.edge.now
    (none_in c.as_slice.result.now c.self.inside.rows.items c.args.edge.now.from c.as_slice.ensures.value
    c.in-None.ensures.none))
    ∙ ap (λ (es : List Edge). has es c.args.edge.now) c.self.view_is
