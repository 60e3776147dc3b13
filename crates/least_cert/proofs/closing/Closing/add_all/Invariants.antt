use Rattle.least_cert.proofs.Common.{AddsSome}
use Rattle.least_cert.proofs.closing.Closing.add_all.Given as goal

abbrev pub invariant-loop-edge : goal.invariant-loop-edge
invariant-loop-edge l = AddsSome l.edges l.edge-index l.initial.self l.self
