-- What is known of tables by name while they are filled.
use Rattle.adl_program.proofs.Common.{option_or-none, or-false}

pub ruleset filling = (option_or-none, or-false)
