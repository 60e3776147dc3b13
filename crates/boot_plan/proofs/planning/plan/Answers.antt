use Rattle.boot_plan.proofs.Usual.{needs_usual}
use Rattle.boot_plan.proofs.planning.plan.Goals as goal

pub plan_needs-requires-clause-usual : goal.plan_needs-requires-clause-usual
plan_needs-requires-clause-usual c = rw (c.as_slice.ensures.value, c.in_ok-needs.ensures)
    (needs_usual c.args.spec.now c.requires.kept.objects)
