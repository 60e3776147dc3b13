use Rattle.least_cert.proofs.Common.{Adds, Edge, IsAnswer, List, OfFirst, [], all_first, arith, first_more_at, none_first, subst, sym}
use Rattle.least_cert.proofs.Growth.{no_edge}
use Rattle.least_cert.proofs.Spreading.{are_replies, first_answers, receivers_less}
use Rattle.least_cert.proofs.replies.answers.Goals as goal

pub loop-edge-init : goal.loop-edge-init
loop-edge-init c =
    subst (λ (xs : List Edge). Adds (OfFirst (λ place (f : Edge). IsAnswer c.args.receivers.now f) c.args.edges.now 0) [] xs)
    (sym c.new-replies.ensures) (none_first (λ place (f : Edge). IsAnswer c.args.receivers.now f) c.args.edges.now [])

pub with_answers-requires : goal.with_answers-requires
with_answers-requires c = receivers_less c.args.closing.now c.args.edges.now c.args.receivers.now c.requires.spread
    c.requires.receivers

pub loop-edge-preserved : goal.loop-edge-preserved
loop-edge-preserved c =
    first_more_at (λ place (f : Edge). IsAnswer c.args.receivers.now f) c.args.edges.now c.loop-edge.edge-index no_edge []
    c.loop-edge.replies c.in_ok-replies.replies c.loop-edge-test.true c.loop-edge.invariant c.in_ok-replies.ensures

pub returns-then-is_over-clause-refused : goal.returns-then-is_over-clause-refused
returns-then-is_over-clause-refused c =
    first_answers c.args.closing.now c.requires.sound c.args.edges.now c.args.receivers.now c.loop-edge.edge-index
    c.loop-edge.replies c.in_ok-replies.replies c.requires.spread c.requires.receivers c.loop-edge-test.true
    c.loop-edge.invariant c.in_ok-replies.ensures
    c.is_over.ensures.sorted (c.is_over.ensures.over.0 c.if-is_over.true)

pub returns-clause-replies : goal.returns-clause-replies
returns-clause-replies c =
    are_replies c.args.closing.now c.requires.sound c.args.edges.now c.args.receivers.now c.loop-edge.replies c.requires.spread
    c.requires.receivers
    (all_first (λ place (f : Edge). IsAnswer c.args.receivers.now f) c.args.edges.now c.loop-edge.edge-index []
    c.loop-edge.replies (let t = c.loop-edge-test.false in omega arith) c.loop-edge.invariant)
