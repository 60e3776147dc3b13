use Rattle.flow_model.proofs.LawsCommon.{runs_stay}
use Rattle.flow_model.proofs.Separated.{separated}
use Rattle.flow_model.proofs.separation_laws.others_change_nothing.Goals as goal

pub returns-clause-separates : goal.returns-clause-separates
returns-clause-separates c = separated

pub returns-clause-certified : goal.returns-clause-certified
returns-clause-certified c = λ spec labels policy cert inside valid closed. separated spec labels policy inside
    (runs_stay spec labels policy cert valid) closed
