use Rattle.page_tables.proofs.Common.{AreShapes, arith, length, rules, ◌<◌}
use Rattle.page_tables.proofs.Fitting.{above_fit, first_fits}
use Rattle.page_tables.proofs.counts.+levels_from.Goals as goal

pub levels_from-requires : goal.levels_from-requires
levels_from-requires g t c =
    let less : length c.in-Some.above.now < length c.args.shapes.now = omega (arith, c.in-Some.ensures.cases.1) in
    let fit : AreShapes c.in-Some.above.now =
    above_fit c.args.shapes.now c.in-Some.shape.now c.in-Some.above.now c.in-Some.ensures.cases.0 c.requires in
    search rules

pub span-requires : goal.span-requires
span-requires g t c = first_fits c.args.shapes.now c.in-Some.shape.now c.in-Some.above.now c.in-Some.ensures.cases.0 c.requires
