use Rattle.page_tables.proofs.Common.{Global, ap, arith, count_at, drop_more, map, read_in, shape, subst, sym, table_count, ◌<◌, ◌∙◌}
use Rattle.page_tables.proofs.Fitting.{span_some}
use Rattle.page_tables.proofs.counts.count_over.Goals as goal

pub span-requires : goal.span-requires
span-requires g c =
    c.requires.shapes _ (read_in c.args.shapes.now c.loop-shape.shape-index (shape Global 0 0) c.loop-shape-test.true)

pub count_at-count-requires : goal.count_at-count-requires
count_at-count-requires g c =
    subst (λ n. 0 < n) (sym c.span.ensures) (span_some _ (c.requires.shapes _ (read_in c.args.shapes.now c.loop-shape.shape-index
    (shape Global 0 0) c.loop-shape-test.true)))

pub overflow_add-count : goal.overflow_add-count
overflow_add-count g c =
    let xs = map g.T.Addressed.address c.args.mapped.now in
    let rest = ap (λ ls. table_count ls xs) (drop_more c.args.shapes.now c.loop-shape.shape-index (shape Global 0 0)
    c.loop-shape-test.true) in
    let here = c.count_at-count.ensures ∙ ap (λ n. count_at n xs) c.span.ensures in
    omega (arith, rest, here, c.requires.few, c.loop-shape.invariant)
