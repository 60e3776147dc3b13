use Rattle.cap_model.proofs.Common.{Edge, IsClassOf, List, None, subst}
use Rattle.cap_model.proofs.TableRows.{row_in, none_in, class_there, class_number, no_class}
use Rattle.cap_model.proofs.table.EdgeTable.class_near.Goals as goal

pub returns-in-Some : goal.returns-in-Some
returns-in-Some c =
    let row = row_in c.as_slice.result.now c.self.inside.rows.items c.args.label c.in-Some.row.now c.as_slice.ensures.value
    c.in-Some.ensures.found in
    let class = class_there c.self.inside.classes.items c.self.inside.rows.items c.self.invariant.0 row.0 c.in-Some.row.now
    c.index.result.now row.1 c.index.ensures in
    subst (λ (es : List Edge). IsClassOf es c.args.label c.number.result) c.self.view_is
    (class_number c.self.inside.classes.items c.self.inside.rows.items c.self.invariant.0 c.args.label c.in-Some.row.now
    c.index.result.now c.number.result row class c.number.ensures)

pub returns-in-None : goal.returns-in-None
returns-in-None c = subst (λ (es : List Edge). IsClassOf es c.args.label None) c.self.view_is
    (no_class c.self.inside.classes.items c.self.inside.rows.items c.self.invariant.0 c.args.label
    (none_in c.as_slice.result.now c.self.inside.rows.items c.args.label c.as_slice.ensures.value c.in-None.ensures.none))
