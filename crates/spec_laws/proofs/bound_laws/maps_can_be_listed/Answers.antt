use Rattle.spec_laws.proofs.Bounds.{can_map}
use Rattle.spec_laws.proofs.bound_laws.maps_can_be_listed.Goals as goal

pub returns : goal.returns
returns c = can_map
