use Rattle.cap_audit.proofs.Common.{Edge, List, OfDeed, has, subst, true, ◌≡◌, ◌≢◌}
use Rattle.cap_audit.proofs.Acting.{act_gains}
use Rattle.cap_audit.proofs.Gaining.{settled_gains}
use Rattle.cap_audit.proofs.making.Making.act.Goals as goal

pub returns-then-are_settled : goal.returns-then-are_settled
returns-then-are_settled c =
    settled_gains (OfDeed c.args.self.now.spec c.args.self.now.labels c.args.deed c.args.from.now.cap c.args.to.now.cap)
    c.args.self.now c.requires.so_far c.in_ok-edges.edges.items c.in_ok-edges.ensures
    (subst (λ (xs : List Edge). (e : Edge) → has xs e ≡ true → e.from ≢ e.to → has c.args.self.now.edges e ≡ true)
    c.as_slice.ensures.value (c.are_settled.ensures c.if-are_settled.true))

pub returns : goal.returns
returns c =
    act_gains c.args.self.now c.note_all.new.self c.requires.so_far c.push.new.self c.in_ok-edges.edges.items
    c.as_slice-2.result.now c.as_slice-2.ensures.value c.in_ok-note_all.ensures c.args.deed c.args.t
    c.args.from.now c.args.to.now c.requires.owns c.in_ok-edges.ensures c.step.result c.step.ensures c.in_ok-push.ensures
