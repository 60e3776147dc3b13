use Rattle.cap_audit.proofs.Common.{AreMet, AreReady, Contains-get_or, Greets, IsQueued, Made, MeetBy, OfKinds, Pair, arith, get_or, slice_get-get_or, subst, sym}
use Rattle.cap_audit.proofs.Meeting.{greets_all, greets_begin, greets_more}
use Rattle.cap_audit.proofs.Gaining.{AtPlace}
use Rattle.cap_audit.proofs.making.Making.meet_all.Goals as goal

no_pair : Pair
no_pair = record { node = 0; held = record { value = 0; number = 0 } }

pub loop-door-init : goal.loop-door-init
loop-door-init c =
    greets_begin c.args.company.now.rosters c.args.company.now.members c.args.self.now c.args.met.now
    c.requires.are_met
    (AtPlace (λ (door : Pair). OfKinds c.args.self.now.labels c.args.company.now.rosters c.args.company.now.members
    door.node c.args.pair.node) c.args.gate.now) c.requires.so_far

pub meet-requires-clause-so_far : goal.meet-requires-clause-so_far
meet-requires-clause-so_far c = c.loop-door.invariant.gains.so_far

pub meet-requires-clause-ready : goal.meet-requires-clause-ready
meet-requires-clause-ready c =
    subst (λ (x : Made). AreReady x.spec x.found x.heads c.args.company.now.rosters c.args.company.now.members
    c.args.company.now.gates) (sym c.loop-door.invariant.gains.same) c.requires.ready

pub meet-requires-clause-are_met : goal.meet-requires-clause-are_met
meet-requires-clause-are_met c =
    subst (λ (x : Made). AreMet x.labels c.args.company.now.rosters c.args.company.now.members c.loop-door.met
    c.loop-door.self.edges) (sym c.loop-door.invariant.gains.same) c.loop-door.invariant.are

pub meet-requires-clause-door : goal.meet-requires-clause-door
unfolding no_pair
meet-requires-clause-door c =
    let door : Pair = get_or c.args.gate.now c.loop-door.door-index no_pair in
    subst (λ (x : Made). IsQueued x.found door.node door.held.value) (sym c.loop-door.invariant.gains.same)
    (c.requires.doors door (Contains-get_or c.args.gate.now c.loop-door.door-index no_pair c.loop-door-test.true)).0

pub meet-requires-clause-pair : goal.meet-requires-clause-pair
meet-requires-clause-pair c = subst (λ (x : Made). IsQueued x.found c.args.pair.node c.args.pair.held.value)
    (sym c.loop-door.invariant.gains.same) c.requires.pair

pub meet-requires-clause-meet : goal.meet-requires-clause-meet
unfolding no_pair
meet-requires-clause-meet c =
    let door : Pair = get_or c.args.gate.now c.loop-door.door-index no_pair in
    subst (λ (x : Made). MeetBy x.spec x.found door.held.value c.args.pair.held.value) (sym c.loop-door.invariant.gains.same)
    (c.requires.doors door (Contains-get_or c.args.gate.now c.loop-door.door-index no_pair c.loop-door-test.true)).1

pub loop-door-preserved : goal.loop-door-preserved
unfolding no_pair
loop-door-preserved c =
    let m : Made = c.args.self.now in
    let door : Pair = get_or c.args.gate.now c.loop-door.door-index no_pair in
    greets_more c.args.company.now.rosters c.args.company.now.members
    (λ (door : Pair). OfKinds m.labels c.args.company.now.rosters c.args.company.now.members door.node
    c.args.pair.node) c.args.gate.now c.loop-door.door-index door m c.loop-door.self c.meet.new.self
    c.loop-door.met c.meet.new.met (slice_get-get_or c.args.gate.now c.loop-door.door-index no_pair c.loop-door-test.true)
    c.loop-door.invariant
    (subst (λ (x : Made). Greets c.args.company.now.rosters c.args.company.now.members
    (OfKinds x.labels c.args.company.now.rosters c.args.company.now.members door.node c.args.pair.node)
    c.loop-door.self c.meet.new.self c.meet.new.met) c.loop-door.invariant.gains.same c.in_ok-meet.ensures)

pub returns : goal.returns
returns c =
    greets_all c.args.company.now.rosters c.args.company.now.members
    (λ (door : Pair). OfKinds c.args.self.now.labels c.args.company.now.rosters c.args.company.now.members door.node
    c.args.pair.node) c.args.gate.now c.loop-door.door-index c.args.self.now
    c.loop-door.self c.loop-door.met (let t = c.loop-door-test.false in omega arith) c.loop-door.invariant
