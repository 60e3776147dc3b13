use Rattle.cap_machine.proofs.Common.{Ok, Progress, State, StepTo, ap, decide, parts, subst, sym, ◌≡◌}
use Rattle.cap_machine.proofs.Applied.{nexts_fit, turned}
use Rattle.cap_machine.proofs.Fitting.{step_fits}
use Rattle.cap_machine.proofs.Table.{decided, answered, no_next}
use Rattle.cap_machine.proofs.state.State.apply.Goals as goal

pub returns-in-Err-clause-refused : goal.returns-in-Err-clause-refused
returns-in-Err-clause-refused c = (
  answered c.args.spec.now c.args.self.now.state c.args.step.now c.in-Err.why (sym c.in-Err.ensures.step),
  no_next c.args.spec.now c.args.self.now.state c.args.step.now c.in-Err.why (sym c.in-Err.ensures.step),
)

pub invariant_of-self : goal.invariant_of-self
invariant_of-self c =
    rw c.in-Ok-perform.ensures.ok.in_nodes
    (nexts_fit (parts c.self.inside.nodes.items c.self.inside.threads.items c.self.inside.irqs.items c.self.inside.mapped.items)
    c.self.inside.applied c.in-Ok.change c.self.invariant)

pub returns-in-Ok-perform-clause-ok : goal.returns-in-Ok-perform-clause-ok
returns-in-Ok-perform-clause-ok c =
    let s : State = parts c.self.inside.nodes.items c.self.inside.threads.items c.self.inside.irqs.items
    c.self.inside.mapped.items in
    let made = turned s c.in-Ok.change _ _ _ _ c.in-Ok-perform.ensures.ok in
    let before : s ≡ c.args.self.now.state = ap (λ (p : Progress). p.state) c.self.view_is in
    let goes : decide c.args.spec.now s c.args.step.now ≡ Ok c.in-Ok.change = rw before (sym c.in-Ok.ensures.step) in
    subst (λ (x : State). StepTo c.args.spec.now x c.args.step.now (parts c.perform.new.nodes.items c.perform.new.threads.items
    c.perform.new.irqs.items c.perform.new.mapped.items)) before
    (subst (λ (x : State). StepTo c.args.spec.now s c.args.step.now x) (sym made) (decided c.args.spec.now s c.args.step.now
    c.in-Ok.change goes))

pub returns-in-Ok-perform-clause-fits : goal.returns-in-Ok-perform-clause-fits
returns-in-Ok-perform-clause-fits c = λ f. step_fits c.args.spec.now _ _ c.args.step.now f (returns-in-Ok-perform-clause-ok c)
