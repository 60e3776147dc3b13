use Rattle.cspace_layout.proofs.Common.{IfOk, ap, limit_fault, subst, ◌∙◌, ◌≡◌}
use Rattle.std.specs.Prelude.{codes}
use Rattle.cspace_layout.proofs.Limits.{all_over, none_over, slots_over}
use Rattle.cspace_layout.proofs.count.slot_limit.Goals as goal

pub returns-then-count-gt4095 : goal.returns-then-count-gt4095
returns-then-count-gt4095 c =
    let s = c.args.wiring.now in
    let told = slots_over s c.source-source.ensures.within.assembly c.domains-domain-items.result.now
    c.domains-domain-items.ensures c.loop-domain.domain-index c.loop-domain.all c.loop-domain.invariant.low c.domain-item.result
    c.count_domain-count.result _ c.loop-domain-test.true c.domain-item.is c.as_slice.ensures c.count_domain-count.ensures
    c.if-count-gt4095.true in
    subst (λ z. IfOk c.limit_fault.result (λ fault. fault ≡ z)) (ap (λ x. limit_fault x (codes "slots"))
    c.source-source.ensures.source ∙ told) c.limit_fault.ensures

pub returns-then-all-gt65536 : goal.returns-then-all-gt65536
returns-then-all-gt65536 c =
    let s = c.args.wiring.now in
    let told = all_over s c.source-source.ensures.within.assembly c.domains-domain-items.result.now c.domains-domain-items.ensures
    c.loop-domain.domain-index c.loop-domain.all c.loop-domain.invariant.low c.loop-domain-test.false
    c.loop-domain.invariant.rest c.loop-domain.invariant.fits c.if-all-gt65536.true in
    subst (λ z. IfOk c.limit_fault-then-all-gt65536.result (λ fault. fault ≡ z)) (ap (λ x. limit_fault x (codes "all slots"))
    c.source-source.ensures.source ∙ told) c.limit_fault-then-all-gt65536.ensures

pub returns : goal.returns
returns c =
    none_over c.args.wiring.now c.source-source.ensures.within.assembly c.domains-domain-items.result.now
    c.domains-domain-items.ensures c.loop-domain.domain-index c.loop-domain.all c.loop-domain.invariant.low
    c.loop-domain-test.false c.loop-domain.invariant.rest c.if-all-gt65536.false
