use Rattle.page_tables.proofs.Common.{AreShapes, AreStacked, inl, layers, refl, sizes, subst, sym, ◌+◌, ◌<◌, ◌^◌}
use Rattle.page_tables.proofs.Fitting.{shapes_fit, shapes_stack}
use Rattle.page_tables.proofs.tables.push_tables_of.Goals as goal

pub push_tables-requires-clause-shapes : goal.push_tables-requires-clause-shapes
push_tables-requires-clause-shapes c = subst AreShapes (sym c.shapes.ensures) (shapes_fit c.args.arch)

pub push_tables-requires-clause-stacked : goal.push_tables-requires-clause-stacked
push_tables-requires-clause-stacked c = subst AreStacked (sym c.shapes.ensures) (shapes_stack c.args.arch)

pub push_tables-requires-clause-links : goal.push_tables-requires-clause-links
push_tables-requires-clause-links c = λ x i. inl refl

pub push_tables-requires-clause-few : goal.push_tables-requires-clause-few
push_tables-requires-clause-few c = subst (λ ls. c.args.first + sizes (layers ls c.args.mappings.now) < 2 ^ 32)
    (sym c.shapes.ensures) c.requires
