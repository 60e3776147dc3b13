use Rattle.adl_flatten.proofs.Common.{all_filled, ap, arith, filled_more, get_or, inner_filled, kinds_in, length, order_below, ◌∙◌}
use Rattle.adl_flatten.proofs.Totals.{IsTotal, body_is}
use Rattle.adl_flatten.proofs.limits.assembly_totals.Goals as goal

pub body_totals-totals-requires-clause-number : goal.body_totals-totals-requires-clause-number
body_totals-totals-requires-clause-number c = order_below c.args.program.now c.order-number-items.result.now
    c.loop-number.number-index c.order-number-items.ensures c.loop-number-test.true

pub body_totals-totals-requires-clause-kinds : goal.body_totals-totals-requires-clause-kinds
body_totals-totals-requires-clause-kinds c =
    let l = order_below c.args.program.now c.order-number-items.result.now c.loop-number.number-index c.order-number-items.ensures
    c.loop-number-test.true in
    rw c.as_slice.ensures.value (kinds_in c.args.program.now c.requires _ (length c.loop-number.all.items) l
    c.loop-number.invariant.length_is)

pub index_mut-requires : goal.index_mut-requires
index_mut-requires c =
    let b = order_below c.args.program.now c.order-number-items.result.now c.loop-number.number-index c.order-number-items.ensures
    c.loop-number-test.true in
    rw (← c.as_slice.ensures.len, c.as_slice.ensures.value, c.loop-number.invariant.length_is) (omega arith)

pub loop-number-preserved : goal.loop-number-preserved
loop-number-preserved c =
    let h = c.args.program.now in
    let order = c.order-number-items.result.now in
    let i = c.loop-number.number-index in
    filled_more (IsTotal h) h order c.loop-number.all.items i c.body_totals-totals.result c.order-number-items.ensures
    c.loop-number-test.true c.loop-number.invariant
    (c.body_totals-totals.ensures ∙ body_is h c.requires.finite (get_or order i 0)
    (order_below h order i c.order-number-items.ensures c.loop-number-test.true) c.as_slice.result.now
    (λ x m t. ap (λ all. get_or all x.kind t) c.as_slice.ensures.value ∙ c.loop-number.invariant.each x.kind t
    (inner_filled h order i x c.order-number-items.ensures c.loop-number-test.true m)))

pub returns : goal.returns
returns c =
    let h = c.args.program.now in
    let t = c.index.result.now in
    c.index.ensures ∙ ap (λ n. get_or c.loop-number.all.items n t) c.top_number-top.ensures.number
    ∙ all_filled (IsTotal h) h c.order-number-items.result.now c.loop-number.all.items c.loop-number.number-index
    c.order-number-items.ensures c.loop-number-test.false c.loop-number.invariant (length h.bodies) t (omega arith)
