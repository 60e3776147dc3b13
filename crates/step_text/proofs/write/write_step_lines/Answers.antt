use Rattle.cap_machine.specs.declared.step.Step.TheVariants as steps
use Rattle.step_text.proofs.Common.{Step, arith, false, get_or, get_or_default, says_line, says_lines, says_nothing, step_line}
use Rattle.step_text.proofs.write.write_step_lines.Goals as goal

no_step : Step
no_step = steps.Take 0 0 0 (record { read = false; write = false; grant = false; reply = false })

pub loop-step-init : goal.loop-step-init
loop-step-init g c = says_nothing

pub loop-step-preserved : goal.loop-step-preserved
unfolding no_step
loop-step-preserved g c =
    says_line (step_line c.args.spec.now) c.args.steps.now c.loop-step.step-index (get_or c.args.steps.now c.loop-step.step-index
    no_step) (omega arith) (get_or_default c.args.steps.now c.loop-step.step-index _ _ (omega arith))
    c.loop-step.invariant c.write_step.ensures

pub returns : goal.returns
returns g c = says_lines (step_line c.args.spec.now) c.args.steps.now c.loop-step.step-index (omega arith) c.loop-step.invariant
