use Rattle.cap_audit.proofs.Common.{arith, refl}
use Rattle.cap_audit.proofs.Looking.{joined_links, linked, root_below, cnode_below}
use Rattle.cap_audit.proofs.Paths.{holds_on}
use Rattle.cap_audit.proofs.WaysMeeting.{widened_web}
use Rattle.cap_audit.proofs.search.link.Goals as goal

pub connect-requires-2-clause-web : goal.connect-requires-2-clause-web
connect-requires-2-clause-web c = widened_web c.args.spec.now _ _ c.in_ok-connect.ensures.widened

pub connect-requires-2-clause-way : goal.connect-requires-2-clause-way
connect-requires-2-clause-way c = (
  c.args.member.cap,
  c.requires.root,
  holds_on c.args.web.now.findings c.connect.new.self.findings c.in_ok-connect.ensures.widened.later.grows c.args.member.node
      c.args.member.number c.args.member.cap c.requires.at,
  c.requires.is,
  refl,
)

pub returns : goal.returns
returns c =
    let many = c.in_ok-connect-2.ensures.widened.ways.as_many_classes in
    let root = root_below c.args.spec.now c.args.web.now.findings c.args.member.thread c.args.member.node c.requires.web.found
    c.requires.root in
    let node = cnode_below c.args.spec.now c.args.member.cap.object c.requires.is in
    linked c.args.spec.now c.args.web.now c.connect.new.self c.connect-2.new.self _ c.args.member.node c.args.member.cap.object
    c.in_ok-connect.ensures c.in_ok-connect-2.ensures refl c.join.ensures.out c.join.ensures.classes (omega arith) (omega arith)

pub returns-then-are_joined : goal.returns-then-are_joined
returns-then-are_joined c =
    joined_links c.args.spec.now c.args.web.now c.args.member.node c.args.member.cap.object c.requires.web
    (c.are_joined.ensures c.if-are_joined.true)
