use Rattle.adl_flatten.proofs.TemplateCommon.{All-same, Body, Part, ap, arith, drop, length, order_below, take_at, ◌-◌, ◌<◌, ◌∙◌, ◌≡◌}
use Rattle.adl_flatten.proofs.Filling.{kinds_in}
use Rattle.adl_flatten.proofs.Holding.{held_more}
use Rattle.adl_flatten.proofs.held.held_bodies.Goals as goal

pub mark_inner-requires-clause-number : goal.mark_inner-requires-clause-number
mark_inner-requires-clause-number c =
    let b = order_below c.args.program.now c.order-order.result.now (c.loop-left.left - 1) c.order-order.ensures
    (omega (arith, c.loop-left.auto.left, c.loop-left-test.true)) in
    omega (arith, b, c.loop-left.invariant.length_is, ap (λ ms. length ms) c.as_mut_slice.ensures.value)

pub mark_inner-requires-clause-kinds : goal.mark_inner-requires-clause-kinds
mark_inner-requires-clause-kinds c =
    let b = order_below c.args.program.now c.order-order.result.now (c.loop-left.left - 1) c.order-order.ensures
    (omega (arith, c.loop-left.auto.left, c.loop-left-test.true)) in
    All-same (λ (x : Part). x.kind < length c.as_mut_slice.result.now) c.parts.result.now _ (c.parts.ensures
    ∙ ap (λ (b : Body). b.parts) c.body.ensures)
    (kinds_in c.args.program.now c.requires.ready _ _ b (ap (λ ms. length ms) c.as_mut_slice.ensures.value
    ∙ c.loop-left.invariant.length_is))

pub loop-left-preserved : goal.loop-left-preserved
loop-left-preserved c =
    let old = c.loop-left.held.items in
    let new = c.mark_inner.new.marks in
    let parts = c.parts.ensures ∙ ap (λ (b : Body). b.parts) c.body.ensures in
    let long : length new ≡ length old = c.mark_inner.auto.marks ∙ ap (λ ms. length ms) c.as_mut_slice.ensures.value in
    rw (take_at new (drop (length new) old) c.loop-left.held.len (omega (arith, long, c.loop-left.held.ok.0)))
    (held_more c.args.program.now c.requires.ready c.order-order.result.now c.order-order.ensures (c.loop-left.left - 1)
    c.loop-left.left old new (omega (arith, c.loop-left.auto.left, c.loop-left-test.true))
    (omega (arith, c.loop-left-test.true)) c.loop-left.invariant long (λ k. simp (c.as_mut_slice.ensures.value, parts) at
    (c.mark_inner.ensures k)))
