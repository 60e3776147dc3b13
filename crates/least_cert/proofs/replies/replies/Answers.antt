use Rattle.least_cert.proofs.Common.{AreReplies, Edge, List, subst, sym}
use Rattle.least_cert.proofs.replies.replies.Goals as goal

pub returns-clause-replies : goal.returns-clause-replies
returns-clause-replies c = subst (λ (xs : List Edge). AreReplies c.args.closing.now c.args.edges.now xs)
    (sym c.in_ok-listed.ensures.items) c.in_ok-replies.ensures.replies
