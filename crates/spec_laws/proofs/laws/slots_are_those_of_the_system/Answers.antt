use Rattle.spec_laws.proofs.Locks.{own_locks}
use Rattle.spec_laws.proofs.Slots.{are_slots}
use Rattle.spec_laws.proofs.laws.slots_are_those_of_the_system.Goals as goal

pub returns : goal.returns
returns c = λ t can. record { has = are_slots t can; own_locks = own_locks t can }
