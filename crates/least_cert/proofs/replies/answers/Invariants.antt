use Rattle.least_cert.proofs.Common.{Adds, Edge, IsAnswer, OfFirst, []}
use Rattle.least_cert.proofs.replies.answers.Given as goal

abbrev pub invariant-loop-edge : goal.invariant-loop-edge
invariant-loop-edge l = Adds (OfFirst (λ place (f : Edge). IsAnswer l.receivers f) l.edges l.edge-index) [] l.replies
