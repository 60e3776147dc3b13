use Rattle.flow_model.proofs.LawsCommon.{runs_stay, steps_reached}
use Rattle.flow_model.proofs.integrity_laws.policies_stay_kept.Goals as goal

pub returns : goal.returns
returns c = λ spec labels policy cert valid before after s new run more l a m auth differ.
    let reached = steps_reached spec after s new (record { steps = before; run = run }) more in
    runs_stay spec labels policy cert valid l a m (reached.steps, new, reached.run, auth) differ
