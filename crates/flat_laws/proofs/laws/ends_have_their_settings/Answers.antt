use Rattle.flat_laws.proofs.AreTyped.{ends_typed}
use Rattle.flat_laws.proofs.SettledEnds.{ends_settled}
use Rattle.flat_laws.proofs.laws.ends_have_their_settings.Goals as goal

pub returns : goal.returns
returns c = λ s sound dotted types. ends_settled s (ends_typed s sound dotted types)
