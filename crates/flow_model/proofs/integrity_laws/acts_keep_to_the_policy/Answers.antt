use Rattle.flow_model.proofs.LawsCommon.{runs_stay, world_reached}
use Rattle.flow_model.proofs.ActsLet.{act_let}
use Rattle.flow_model.proofs.integrity_laws.acts_keep_to_the_policy.Goals as goal

pub returns-clause-stays : goal.returns-clause-stays
returns-clause-stays c = λ spec labels policy stays w new act from does. act_let spec labels policy stays w new act
    (world_reached spec w from) does

pub returns-clause-certified : goal.returns-clause-certified
returns-clause-certified c = λ spec labels policy cert valid w new act from does.
    act_let spec labels policy (runs_stay spec labels policy cert valid) w new act (world_reached spec w from) does
