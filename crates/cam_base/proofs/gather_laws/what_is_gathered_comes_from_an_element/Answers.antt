use Rattle.cam_base.proofs.Gathered.{from_gather, in_gather}
use Rattle.cam_base.proofs.gather_laws.what_is_gathered_comes_from_an_element.Goals as goal

pub returns : goal.returns
returns c start = λ f xs y. (from_gather f y xs, λ h. in_gather f y xs h.0 h.1 h.2 h.3)
