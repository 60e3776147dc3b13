use Rattle.cap_audit.proofs.Common.{Attends, Contains, Gathering, Joins, List, Member, Side, ap, members_at, opposite, refl, subst, sym, true, ◌∙◌, ◌≡◌}
use Rattle.cap_audit.proofs.Paths.{widened_same}
use Rattle.cap_audit.proofs.WaysMeeting.{endpoint_below, fellow_stands, member_attends}
use Rattle.cap_audit.proofs.hubs.Hub.attend.Goals as goal

pub returns-then-not-allows : goal.returns-then-not-allows
returns-then-not-allows c = record {
  widened = widened_same c.args.spec.now c.args.web.now c.requires.web;
  is = c.requires.hub;
  fills = λ side e m there. there;
  stands = λ allows. absurd (
      let yes : c.allows.result ≡ true = c.allows.ensures.1 allows in
      let no = c.if-not-allows.true in
      cc);
}

pub returns-then-has_fellow : goal.returns-then-has_fellow
returns-then-has_fellow c =
    let found = c.has_fellow.ensures c.if-has_fellow.true in
    record {
      widened = widened_same c.args.spec.now c.args.web.now c.requires.web;
      is = c.requires.hub;
      fills = λ side e m there. there;
      stands = λ allows. fellow_stands c.args.spec.now c.args.web.now c.requires.web c.args.side _ c.args.member.node (
        found.0,
        subst (λ (members : List Member). Contains members found.0) c.members.ensures found.1,
        found.2,
      );
    }

pub join_all-requires-clause-both : goal.join_all-requires-clause-both
join_all-requires-clause-both c = (
  c.args.member.cap.object,
  record {
    root = c.requires.root;
    at = c.requires.at;
    is = c.requires.is;
    of = refl;
    allows = c.allows.ensures.0 c.if-not-allows.false;
  },
  λ other there. c.requires.hub.members (opposite c.args.side) c.args.member.cap.object other
      (subst (λ (members : List Member). Contains members other)
      (c.members-2.ensures ∙ ap (λ (s : Side). members_at c.args.self.now s c.args.member.cap.object) c.opposite.ensures) there),
)

pub returns : goal.returns
returns c =
    subst (λ (hub : Gathering). Attends c.args.spec.now c.args.web.now c.args.self.now c.args.by c.args.side c.args.member
    c.join_all.new.web hub) (sym c.in_ok-put.ensures)
    (member_attends c.args.spec.now c.args.web.now c.args.by c.args.self.now c.requires.hub c.args.side c.args.member
    (record {
      root = c.requires.root;
      at = c.requires.at;
      is = c.requires.is;
      of = refl;
      allows = c.allows.ensures.0 c.if-not-allows.false;
    }) c.join_all.new.web
    (subst (λ (members : List Member). Joins c.args.spec.now c.args.web.now c.args.side c.args.member members c.join_all.new.web)
    (c.members-2.ensures ∙ ap (λ (s : Side). members_at c.args.self.now s c.args.member.cap.object) c.opposite.ensures)
    c.in_ok-join_all.ensures) (endpoint_below c.args.spec.now c.args.member.cap.object c.requires.is))
