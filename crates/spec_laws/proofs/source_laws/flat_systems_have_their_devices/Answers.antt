use Rattle.spec_laws.proofs.SourceDevices.{devices_flat}
use Rattle.spec_laws.proofs.source_laws.flat_systems_have_their_devices.Goals as goal

pub returns : goal.returns
returns c = λ s sound dotted types. devices_flat s sound dotted types
