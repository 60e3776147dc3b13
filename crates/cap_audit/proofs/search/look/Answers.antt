use Rattle.cap_audit.proofs.Common.{Contains, GoesAlong, List, Way, refl, subst}
use Rattle.cap_audit.proofs.Looking.{looked, mid_hubs, mid_widened}
use Rattle.cap_audit.proofs.WaysMeeting.{widened_web}
use Rattle.cap_audit.proofs.search.look.Goals as goal

pub go_along-requires-clause-ways : goal.go_along-requires-clause-ways
go_along-requires-clause-ways c = λ way there. c.requires.search.is.ways.ways c.pair-pair.result.node way
    (subst (λ (ways : List Way). Contains ways way) c.ways-ways.ensures there)

pub cover-requires-clause-web : goal.cover-requires-clause-web
cover-requires-clause-web c =
    widened_web c.args.spec.now c.args.web.now _
    (mid_widened c.args.spec.now c.args.web.now c.args.hubs.now c.args.place c.requires.search c.requires.inside
    c.pair-pair.result c.pair-pair.ensures _
    (subst (λ (ways : List Way). GoesAlong c.args.spec.now c.args.web.now.findings ways c.pair-pair.result.held
    c.go_along.new.findings) c.ways-ways.ensures c.in_ok-go_along.ensures) refl)

pub cover-requires-clause-hubs : goal.cover-requires-clause-hubs
cover-requires-clause-hubs c =
    mid_hubs c.args.spec.now c.args.web.now c.args.hubs.now c.args.place c.requires.search c.requires.inside
    c.pair-pair.result c.pair-pair.ensures _
    (subst (λ (ways : List Way). GoesAlong c.args.spec.now c.args.web.now.findings ways c.pair-pair.result.held
    c.go_along.new.findings) c.ways-ways.ensures c.in_ok-go_along.ensures) refl

pub returns : goal.returns
returns c =
    looked c.args.spec.now c.args.web.now c.args.hubs.now c.args.place c.requires.search c.requires.inside c.pair-pair.result
    c.pair-pair.ensures (record c.args.web.now { findings = c.go_along.new.findings })
    (subst (λ (ways : List Way). GoesAlong c.args.spec.now c.args.web.now.findings ways c.pair-pair.result.held
    c.go_along.new.findings) c.ways-ways.ensures c.in_ok-go_along.ensures) refl c.cover.new.web c.cover.new.hubs
    c.in_ok-cover.ensures
