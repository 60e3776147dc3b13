use Rattle.cam_base.proofs.Common.{refl}
use Rattle.cam_base.proofs.Gathered.{gathered}
use Rattle.cam_base.proofs.gather_laws.numbers_are_sums.Goals as goal

pub returns : goal.returns
returns c start = λ f xs k x j y there stands. gathered f xs k x j y _ there stands refl
