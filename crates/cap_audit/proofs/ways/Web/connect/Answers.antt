use Rattle.cap_audit.proofs.Common.{AllGo, Held, Lanes, List, ap, arith, length, refl, subst, ◌∙◌}
use Rattle.cap_audit.proofs.Paths.{connects_back, end_below, joined_connects, lead_connects, way_connects}
use Rattle.cap_audit.proofs.ways.Web.connect.Goals as goal

pub returns-then-are_joined : goal.returns-then-are_joined
returns-then-are_joined c = joined_connects c.args.spec.now c.args.self.now c.args.from c.args.way.to c.requires.web
    (c.are_joined.ensures c.if-are_joined.true)

pub returns-then-leads_to : goal.returns-then-leads_to
returns-then-leads_to c = lead_connects c.args.spec.now c.args.self.now c.args.from c.args.way.to c.requires.web
    (c.leads_to.ensures c.if-leads_to.true)

pub join_back-requires-clause-one : goal.join_back-requires-clause-one
join_back-requires-clause-one c =
    let many = c.requires.web.ways.as_many_classes in
    let same = ap (λ (n : Lanes). length n.classes) c.in_ok-add.ensures in
    let below = c.requires.from in
    omega arith

pub join_back-requires-clause-other : goal.join_back-requires-clause-other
join_back-requires-clause-other c =
    let many = c.requires.web.ways.as_many_classes in
    let same = ap (λ (n : Lanes). length n.classes) c.in_ok-add.ensures in
    let below = end_below c.args.spec.now c.args.self.now.findings c.args.from c.args.way c.requires.web.found c.requires.way in
    omega arith

pub returns : goal.returns
returns c =
    connects_back c.args.spec.now c.args.self.now (record c.args.self.now {
      findings = c.all_go.new.findings;
      net = c.add.new.self;
    }) _ c.args.from c.args.way.to
    (way_connects c.args.spec.now c.args.self.now c.args.from c.args.way c.requires.web c.requires.way _
    (subst (λ (helds : List Held). AllGo c.args.spec.now c.args.self.now.findings c.args.way helds c.all_go.new.findings)
    (c.as_slice.ensures.value ∙ c.in_ok-helds.ensures.items ∙ c.holdings.ensures) c.in_ok-all_go.ensures)
    c.requires.from c.in_ok-add.ensures) c.requires.from
    (end_below c.args.spec.now c.args.self.now.findings c.args.from c.args.way c.requires.web.found c.requires.way) refl
    c.join_back.ensures
