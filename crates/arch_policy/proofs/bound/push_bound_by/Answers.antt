use Rattle.arch_policy.proofs.Common.{Adds, arith, subst, ◌≡◌}
use Rattle.arch_policy.proofs.Bounding.{Until, until_all, until_more, until_none}
use Rattle.arch_policy.proofs.bound.push_bound_by.Goals as goal

pub loop-at-init : goal.loop-at-init
loop-at-init c = until_none c.args.handle c.args.signals.now c.out_of-first.result.0 c.args.edges.now

pub loop-at-preserved : goal.loop-at-preserved
loop-at-preserved c =
    until_more c.args.handle c.args.signals.now c.out_of-first.result.0 c.loop-at.at c.args.edges.now c.loop-at.edges
    c.push_bound_to.new.edges c.get.result
    c.loop-at.auto.at c.loop-at.invariant c.get.ensures c.in_ok-push_bound_to.ensures

pub returns : goal.returns
returns c =
    let low = c.out_of-first.ensures.order in
    let high = c.loop-at.auto.at-end low in
    let past = c.loop-at-test.false in
    let same : c.loop-at.at ≡ c.out_of-first.result.1 = omega (arith, high, past) in
    until_all c.args.handle c.args.signals.now c.out_of-first.result.0 c.out_of-first.result.1 c.args.edges.now c.loop-at.edges
    c.out_of-first.ensures.first c.out_of-first.ensures.past
    (subst (λ k. Adds (Until c.args.handle c.args.signals.now c.out_of-first.result.0 k) c.args.edges.now c.loop-at.edges) same
    c.loop-at.invariant)
