use Rattle.cam_base.proofs.Common.{ap, arith, length, sym, ◌∙◌}
use Rattle.cam_base.proofs.Telling.{told_silent, told_line}
use Rattle.cam_base.proofs.line.LinesIterator.next.Goals as goal

pub returns-then-not-is_silent-clause-steps : goal.returns-then-not-is_silent-clause-steps
returns-then-not-is_silent-clause-steps c =
    sym c.loop-self.invariant
    ∙ told_line c.loop-self.self.at c.loop-self.self.bytes.now c.part_from-text.result.now (omega arith)
    c.part_from-text.ensures.part (sym c.is_silent.ensures ∙ c.if-not-is_silent.true)

pub returns-then-not-is_silent-clause-goes : goal.returns-then-not-is_silent-clause-goes
returns-then-not-is_silent-clause-goes c =
    let steps = sym c.loop-self.invariant
    ∙ told_line c.loop-self.self.at c.loop-self.self.bytes.now c.part_from-text.result.now (omega arith)
    c.part_from-text.ensures.part (sym c.is_silent.ensures ∙ c.if-not-is_silent.true) in
    let fewer = ap length steps in
    record { on = λ f. (tt, tt, omega (arith, fewer)); keeps = tt; rests = λ f. tt }

pub loop-self-preserved : goal.loop-self-preserved
loop-self-preserved c =
    told_silent c.loop-self.self.at c.loop-self.self.bytes.now c.part_from-text.result.now (omega arith)
    c.part_from-text.ensures.part (sym c.is_silent.ensures ∙ c.if-not-is_silent.false)
    ∙ c.loop-self.invariant
