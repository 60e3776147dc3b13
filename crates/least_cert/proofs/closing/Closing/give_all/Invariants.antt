use Rattle.least_cert.proofs.Common.{GivesSome}
use Rattle.least_cert.proofs.closing.Closing.give_all.Given as goal

abbrev pub invariant-loop-gift : goal.invariant-loop-gift
invariant-loop-gift l = GivesSome l.gifts l.gift-index l.initial.self l.self
