use Rattle.spec_laws.proofs.SourceSlots.{tables_have_slots}
use Rattle.spec_laws.proofs.mapped_laws.tables_have_slots.Goals as goal

pub returns : goal.returns
returns c = tables_have_slots
