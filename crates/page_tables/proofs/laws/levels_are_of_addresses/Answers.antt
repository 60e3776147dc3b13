use Rattle.page_tables.proofs.Counted.{levels_of_addresses}
use Rattle.page_tables.proofs.laws.levels_are_of_addresses.Goals as goal

pub returns : goal.returns
returns c = levels_of_addresses
