use Rattle.adl_settings.proofs.EndNumbers.{setting_at_number}
use Rattle.adl_settings.proofs.laws.settings_are_those_of_joins.Goals as goal

pub returns : goal.returns
returns c = setting_at_number
