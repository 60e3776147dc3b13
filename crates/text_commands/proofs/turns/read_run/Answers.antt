use Rattle.text_commands.proofs.Common.{length, subst, sym, ◌≤◌}
use Rattle.text_commands.proofs.FewSteps.{few_steps}
use Rattle.text_commands.proofs.turns.read_run.Goals as goal

pub returns-in-Ok-clause-few : goal.returns-in-Ok-clause-few
returns-in-Ok-clause-few g c = subst (λ steps. length steps ≤ 100000) (sym c.in-Ok.ensures.1)
    (few_steps c.args.spec.now c.lend.result.now c.in-Ok.ensures.0)
