use Rattle.system_spec.proofs.Common.{arith}
use Rattle.system_spec.proofs.Domains.{first_whole, turned}
use Rattle.system_spec.proofs.listing.first_of.Goals as goal

pub overflow_cast-first : goal.overflow_cast-first
overflow_cast-first c =
    let more = turned c.args.sections.now c.loop-section.section-index c.loop-section.first _ c.args.number _
    c.loop-section-test.true c.section-item.is c.len.ensures c.loop-section.invariant in
    omega (arith, c.requires.few, more.within)

pub overflow_add-first : goal.overflow_add-first
overflow_add-first c =
    let more = turned c.args.sections.now c.loop-section.section-index c.loop-section.first _ c.args.number _
    c.loop-section-test.true c.section-item.is c.len.ensures c.loop-section.invariant in
    omega (arith, c.requires.few, more.within)

pub loop-section-preserved : goal.loop-section-preserved
loop-section-preserved c = (turned c.args.sections.now c.loop-section.section-index c.loop-section.first _ c.args.number _
    c.loop-section-test.true c.section-item.is c.len.ensures c.loop-section.invariant).next

pub returns : goal.returns
returns c = first_whole c.args.sections.now c.loop-section.section-index _ c.args.number c.loop-section-test.false
    c.loop-section.invariant
