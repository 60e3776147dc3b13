use Rattle.std.proofs.Common.{refl}
use Rattle.camkes_tests.proofs.edges.shared.Goals as goal

pub shared-requires-clause-pairs : goal.shared-requires-clause-pairs
shared-requires-clause-pairs c = c.if-not-may_be_shared.ensures.rise refl
