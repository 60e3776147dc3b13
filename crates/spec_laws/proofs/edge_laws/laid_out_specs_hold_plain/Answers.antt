use Rattle.spec_laws.proofs.Connections.{holds_plain}
use Rattle.spec_laws.proofs.edge_laws.laid_out_specs_hold_plain.Goals as goal

pub returns : goal.returns
returns c = λ t h. holds_plain t h
