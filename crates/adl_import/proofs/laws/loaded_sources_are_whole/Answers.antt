use Rattle.adl_import.proofs.Whole.{clean_some, clean_few, clean_each}
use Rattle.adl_import.proofs.laws.loaded_sources_are_whole.Goals as goal

pub returns-clause-some : goal.returns-clause-some
returns-clause-some c = clean_some

pub returns-clause-few : goal.returns-clause-few
returns-clause-few c = clean_few

pub returns-clause-each : goal.returns-clause-each
returns-clause-each c = clean_each
