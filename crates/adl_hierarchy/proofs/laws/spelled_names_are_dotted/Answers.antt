use Rattle.adl_hierarchy.proofs.Spelled.{spelled_dotted}
use Rattle.adl_hierarchy.proofs.laws.spelled_names_are_dotted.Goals as goal

pub returns : goal.returns
returns c = spelled_dotted
