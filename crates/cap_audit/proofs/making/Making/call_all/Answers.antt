use Rattle.cap_audit.proofs.Common.{AreRosters, Between, Contains-get_or, Gains, Made, Meets, OfSome, Place, arith, get_or, length, slice_get-get_or, subst, sym}
use Rattle.cap_audit.proofs.Gaining.{AtPlace, below_none, some_all, some_more}
use Rattle.cap_audit.proofs.making.Making.call_all.Goals as goal

no_place : Place
no_place = record { node = 0; number = 0 }

pub loop-peer-init : goal.loop-peer-init
loop-peer-init c =
    below_none
    (AtPlace (λ (peer : Place). OfSome (λ (at : Place). Between c.args.self.now.labels c.args.rosters.now at.node peer.node)
    c.args.callers.now) c.args.peers.now) c.args.self.now c.requires.so_far

pub call_from_gate-requires-clause-rosters : goal.call_from_gate-requires-clause-rosters
call_from_gate-requires-clause-rosters c = subst (λ (x : Made). AreRosters x.spec c.args.rosters.now (length x.spec.entries))
    (sym c.loop-peer.invariant.same) c.requires.rosters

pub call_from_gate-requires-clause-meet : goal.call_from_gate-requires-clause-meet
unfolding no_place
call_from_gate-requires-clause-meet c = λ at there.
    subst (λ (x : Made). Meets x.spec x.found at (get_or c.args.peers.now c.loop-peer.peer-index no_place))
    (sym c.loop-peer.invariant.same)
    (c.requires.meet (get_or c.args.peers.now c.loop-peer.peer-index no_place) at
    (Contains-get_or c.args.peers.now c.loop-peer.peer-index no_place c.loop-peer-test.true) there)

pub loop-peer-preserved : goal.loop-peer-preserved
unfolding no_place
loop-peer-preserved c =
    let m : Made = c.args.self.now in
    let peer : Place = get_or c.args.peers.now c.loop-peer.peer-index no_place in
    some_more (λ (peer : Place). OfSome (λ (at : Place). Between m.labels c.args.rosters.now at.node peer.node)
    c.args.callers.now) c.args.peers.now c.loop-peer.peer-index peer m c.loop-peer.self
    c.call_from_gate.new.self (slice_get-get_or c.args.peers.now c.loop-peer.peer-index no_place c.loop-peer-test.true)
    c.loop-peer.invariant
    (subst (λ (x : Made). Gains (OfSome (λ (at : Place). Between x.labels c.args.rosters.now at.node peer.node)
    c.args.callers.now) c.loop-peer.self c.call_from_gate.new.self) c.loop-peer.invariant.same
    c.in_ok-call_from_gate.ensures)

pub returns : goal.returns
returns c =
    some_all (λ (peer : Place). OfSome (λ (at : Place). Between c.args.self.now.labels c.args.rosters.now at.node peer.node)
    c.args.callers.now) c.args.peers.now c.loop-peer.peer-index c.args.self.now
    c.loop-peer.self (let t = c.loop-peer-test.false in omega arith) c.loop-peer.invariant
