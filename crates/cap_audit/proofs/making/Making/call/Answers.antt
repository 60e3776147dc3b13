use Rattle.cap_audit.proofs.Common.{OfParties, refl}
use Rattle.cap_audit.proofs.Acting.{call_gains}
use Rattle.cap_audit.proofs.Gaining.{settled_gains}
use Rattle.cap_audit.proofs.making.Making.call.Goals as goal

pub returns-then-are_settled : goal.returns-then-are_settled
returns-then-are_settled c =
    settled_gains (OfParties c.args.self.now.labels c.args.caller c.args.listener) c.args.self.now c.requires.so_far
    c.replies-edges.result c.replies-edges.ensures (c.are_settled.ensures c.if-are_settled.true)

pub returns : goal.returns
returns c =
    call_gains c.args.self.now c.note_all.new.self c.requires.so_far c.push_call.new.self c.replies-edges.result
    c.replies-edges.result refl c.in_ok-note_all.ensures c.args.caller c.args.listener c.requires.parties
    c.replies-edges.ensures c.in_ok-push_call.ensures
