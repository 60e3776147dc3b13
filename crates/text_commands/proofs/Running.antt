-- What a step fails that is refused.
use Rattle.text_commands.proofs.Common.{Some, Spec, State, Step, Why, checks, first_failing, subst, ◌≡◌}
use Rattle.cap_machine.specs.Refused.{Refused}
use Rattle.cap_machine.specs.declared.state.StepError.{StepError}
use Rattle.cap_machine.specs.declared.state.StepError.TheVariants.{Illegal}

pub refused_is : (spec : Spec) (s : State) (step : Step) (e : StepError) (why : Why) → e ≡ Illegal why → Refused spec s step e
    → first_failing (checks spec s step) ≡ Some why
refused_is spec s step e why is refused = (subst (λ x. Refused spec s step x) is refused).0
