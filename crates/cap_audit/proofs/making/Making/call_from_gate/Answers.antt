use Rattle.cap_audit.proofs.Common.{AreRosters, Between, Contains-get_or, Gains, Made, Meets, Place, arith, get_or, length, slice_get-get_or, subst, sym}
use Rattle.cap_audit.proofs.Gaining.{AtPlace, below_none, some_all, some_more}
use Rattle.cap_audit.proofs.making.Making.call_from_gate.Goals as goal

no_place : Place
no_place = record { node = 0; number = 0 }

pub loop-at-init : goal.loop-at-init
loop-at-init c =
    below_none (AtPlace (λ (at : Place). Between c.args.self.now.labels c.args.rosters.now at.node c.args.peer.node)
    c.args.gate.now) c.args.self.now c.requires.so_far

pub call_between-requires-clause-rosters : goal.call_between-requires-clause-rosters
call_between-requires-clause-rosters c = subst (λ (x : Made). AreRosters x.spec c.args.rosters.now (length x.spec.entries))
    (sym c.loop-at.invariant.same) c.requires.rosters

pub call_between-requires-clause-meets : goal.call_between-requires-clause-meets
unfolding no_place
call_between-requires-clause-meets c =
    subst (λ (x : Made). Meets x.spec x.found (get_or c.args.gate.now c.loop-at.at-index no_place) c.args.peer)
    (sym c.loop-at.invariant.same)
    (c.requires.meet (get_or c.args.gate.now c.loop-at.at-index no_place)
    (Contains-get_or c.args.gate.now c.loop-at.at-index no_place c.loop-at-test.true))

pub loop-at-preserved : goal.loop-at-preserved
unfolding no_place
loop-at-preserved c =
    let m : Made = c.args.self.now in
    let at : Place = get_or c.args.gate.now c.loop-at.at-index no_place in
    some_more (λ (at : Place). Between m.labels c.args.rosters.now at.node c.args.peer.node) c.args.gate.now c.loop-at.at-index
    at m c.loop-at.self c.call_between.new.self
    (slice_get-get_or c.args.gate.now c.loop-at.at-index no_place c.loop-at-test.true) c.loop-at.invariant
    (subst (λ (x : Made). Gains (Between x.labels c.args.rosters.now at.node c.args.peer.node) c.loop-at.self
    c.call_between.new.self) c.loop-at.invariant.same c.in_ok-call_between.ensures)

pub returns : goal.returns
returns c =
    some_all (λ (at : Place). Between c.args.self.now.labels c.args.rosters.now at.node c.args.peer.node) c.args.gate.now
    c.loop-at.at-index c.args.self.now c.loop-at.self
    (let t = c.loop-at-test.false in omega arith) c.loop-at.invariant
