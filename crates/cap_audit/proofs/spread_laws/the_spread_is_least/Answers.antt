use Rattle.cap_audit.proofs.Common.{true, ◌≡◌}
use Rattle.cap_audit.proofs.SpreadLeast.{spread_closed, spread_least}
use Rattle.cap_audit.proofs.spread_laws.the_spread_is_least.Goals as goal

pub returns-clause-closed : goal.returns-clause-closed
returns-clause-closed c = λ spec. spread_closed spec

pub returns-clause-least : goal.returns-clause-least
returns-clause-least c = λ spec has closed n cap spreads. spread_least spec (λ m x. has m x ≡ true) closed n cap spreads
