use Rattle.least_cert.proofs.Spreading.{answers_made}
use Rattle.least_cert.proofs.replies.with_answers.Goals as goal

pub returns-in_ok-replies-in-Call : goal.returns-in_ok-replies-in-Call
returns-in_ok-replies-in-Call c =
    answers_made c.args.receivers.now c.in_ok-peers-in-Call.peers.items c.in_ok-answers-in-Call.answers.items c.args.replies
    c.in_ok-replies-in-Call.replies c.args.edge c.in-Call.is c.requires c.in_ok-peers-in-Call.ensures.from
    c.in_ok-peers-in-Call.ensures.every
    (rw c.as_slice.ensures.value at c.in_ok-answers-in-Call.ensures)
    (rw c.as_slice-in-Call.ensures.value at c.in_ok-replies-in-Call.ensures)
