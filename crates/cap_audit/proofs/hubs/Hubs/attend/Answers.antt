use Rattle.cap_audit.proofs.Common.{AreHubs, Covers, Doors, subst, sym}
use Rattle.cap_audit.proofs.Covering.{attended}
use Rattle.cap_audit.proofs.Paths.{holds_on}
use Rattle.cap_audit.proofs.WaysMeeting.{hub_on, widened_then, widened_web}
use Rattle.cap_audit.specs.declared.hubs.Passage.TheVariants as passages
use Rattle.cap_audit.proofs.hubs.Hubs.attend.Goals as goal

pub attend-requires-clause-hub : goal.attend-requires-clause-hub
attend-requires-clause-hub c =
    let doors : Doors = record { grants = c.self.inside.grants; replies = c.self.inside.replies } in
    let hubs : AreHubs c.args.spec.now c.args.web.now doors = subst (λ (d : Doors). AreHubs c.args.spec.now c.args.web.now d)
    (sym c.self.view_is) c.requires.hubs in
    hubs passages.Grant

pub attend-requires-2-clause-web : goal.attend-requires-2-clause-web
attend-requires-2-clause-web c = widened_web c.args.spec.now _ _ c.in_ok-attend.ensures.widened

pub attend-requires-2-clause-hub : goal.attend-requires-2-clause-hub
attend-requires-2-clause-hub c = c.in_ok-attend.ensures.is

pub attend-requires-2-clause-at : goal.attend-requires-2-clause-at
attend-requires-2-clause-at c =
    holds_on c.args.web.now.findings c.attend.new.web.findings c.in_ok-attend.ensures.widened.later.grows
    c.args.member.node c.args.member.number c.args.member.cap c.requires.at

pub attend-requires-3-clause-web : goal.attend-requires-3-clause-web
attend-requires-3-clause-web c = widened_web c.args.spec.now _ _ c.in_ok-attend-2.ensures.widened

pub attend-requires-3-clause-hub : goal.attend-requires-3-clause-hub
attend-requires-3-clause-hub c =
    let doors : Doors = record { grants = c.self.inside.grants; replies = c.self.inside.replies } in
    let hubs : AreHubs c.args.spec.now c.args.web.now doors = subst (λ (d : Doors). AreHubs c.args.spec.now c.args.web.now d)
    (sym c.self.view_is) c.requires.hubs in
    hub_on c.args.spec.now c.args.web.now c.attend-2.new.web passages.Reply c.self.inside.replies
    (widened_then c.args.spec.now _ _ _ c.in_ok-attend.ensures.widened c.in_ok-attend-2.ensures.widened) (hubs passages.Reply)

pub attend-requires-3-clause-at : goal.attend-requires-3-clause-at
attend-requires-3-clause-at c =
    holds_on c.args.web.now.findings c.attend-2.new.web.findings
    (widened_then c.args.spec.now _ _ _ c.in_ok-attend.ensures.widened c.in_ok-attend-2.ensures.widened).later.grows
    c.args.member.node c.args.member.number c.args.member.cap c.requires.at

pub attend-requires-4-clause-web : goal.attend-requires-4-clause-web
attend-requires-4-clause-web c = widened_web c.args.spec.now _ _ c.in_ok-attend-3.ensures.widened

pub attend-requires-4-clause-hub : goal.attend-requires-4-clause-hub
attend-requires-4-clause-hub c = c.in_ok-attend-3.ensures.is

pub attend-requires-4-clause-at : goal.attend-requires-4-clause-at
attend-requires-4-clause-at c =
    holds_on c.args.web.now.findings c.attend-3.new.web.findings
    (widened_then c.args.spec.now _ _ _ c.in_ok-attend.ensures.widened
    (widened_then c.args.spec.now _ _ _ c.in_ok-attend-2.ensures.widened c.in_ok-attend-3.ensures.widened)).later.grows
    c.args.member.node c.args.member.number c.args.member.cap c.requires.at

pub returns : goal.returns
returns c =
    let doors : Doors = record { grants = c.self.inside.grants; replies = c.self.inside.replies } in
    let hubs : AreHubs c.args.spec.now c.args.web.now doors = subst (λ (d : Doors). AreHubs c.args.spec.now c.args.web.now d)
    (sym c.self.view_is) c.requires.hubs in
    let full : Doors = record { grants = c.attend-2.new.self; replies = c.attend-4.new.self } in
    subst (λ (d : Doors). Covers c.args.spec.now c.args.web.now d c.args.member.node c.args.member.cap c.attend-4.new.web full)
    c.self.view_is
    (attended c.args.spec.now c.args.member c.requires.is c.args.web.now c.attend.new.web c.attend-2.new.web c.attend-3.new.web
    c.attend-4.new.web doors c.attend.new.self c.attend-2.new.self c.attend-3.new.self c.attend-4.new.self hubs
    c.in_ok-attend.ensures c.in_ok-attend-2.ensures c.in_ok-attend-3.ensures c.in_ok-attend-4.ensures)
