use Rattle.cap_audit.proofs.Common.{AreMet, AreReady, Found, Greets, Made, OfListening, Some, ap, arith, length, refl, slice_get, subst, sym, ◌≡◌}
use Rattle.cap_audit.proofs.Meeting.{greets_all, greets_begin, greets_more}
use Rattle.cap_audit.proofs.Gaining.{AtPlace}
use Rattle.cap_audit.proofs.making.Making.listen_all.Goals as goal

pub loop-place-init : goal.loop-place-init
loop-place-init c =
    let m : Made = c.args.self.now in
    greets_begin c.args.company.now.rosters c.args.company.now.members m c.args.met.now c.requires.are_met
    (AtPlace (OfListening m.spec m.labels m.found m.heads c.args.company.now.rosters c.args.company.now.members
    c.args.company.now.gates) m.found.queue) c.requires.so_far

pub pair-requires : goal.pair-requires
pair-requires c =
    let same = ap (λ (x : Made). length x.found.queue) c.loop-place.invariant.gains.same in
    omega (arith, same, c.count-place-end.ensures, c.loop-place-test.true)

pub listen-requires-clause-so_far : goal.listen-requires-clause-so_far
listen-requires-clause-so_far c = c.loop-place.invariant.gains.so_far

pub listen-requires-clause-ready : goal.listen-requires-clause-ready
listen-requires-clause-ready c =
    subst (λ (x : Made). AreReady x.spec x.found x.heads c.args.company.now.rosters c.args.company.now.members
    c.args.company.now.gates) (sym c.loop-place.invariant.gains.same) c.requires.ready

pub listen-requires-clause-are_met : goal.listen-requires-clause-are_met
listen-requires-clause-are_met c =
    subst (λ (x : Made). AreMet x.labels c.args.company.now.rosters c.args.company.now.members c.loop-place.met
    c.loop-place.self.edges) (sym c.loop-place.invariant.gains.same) c.loop-place.invariant.are

pub listen-requires-clause-pair : goal.listen-requires-clause-pair
listen-requires-clause-pair c = record {
  place = c.loop-place.place;
  pair = c.pair.result;
  there = c.pair.ensures;
  at = refl;
  of = refl;
}

pub loop-place-preserved : goal.loop-place-preserved
loop-place-preserved c =
    let m : Made = c.args.self.now in
    let found : c.loop-place.self.found ≡ m.found = ap (λ (x : Made). x.found) c.loop-place.invariant.gains.same in
    greets_more c.args.company.now.rosters c.args.company.now.members
    (OfListening m.spec m.labels m.found m.heads c.args.company.now.rosters c.args.company.now.members
    c.args.company.now.gates) m.found.queue c.loop-place.place c.pair.result m c.loop-place.self
    c.listen.new.self c.loop-place.met c.listen.new.met
    (subst (λ (f : Found). slice_get f.queue c.loop-place.place ≡ Some c.pair.result) found c.pair.ensures)
    c.loop-place.invariant
    (subst (λ (x : Made). Greets c.args.company.now.rosters c.args.company.now.members
    (OfListening x.spec x.labels x.found x.heads c.args.company.now.rosters c.args.company.now.members
    c.args.company.now.gates c.pair.result) c.loop-place.self c.listen.new.self c.listen.new.met)
    c.loop-place.invariant.gains.same c.in_ok-listen.ensures)

pub returns : goal.returns
returns c =
    let m : Made = c.args.self.now in
    greets_all c.args.company.now.rosters c.args.company.now.members
    (OfListening m.spec m.labels m.found m.heads c.args.company.now.rosters c.args.company.now.members
    c.args.company.now.gates) m.found.queue c.loop-place.place m c.loop-place.self
    c.loop-place.met (omega (arith, c.count-place-end.ensures, c.loop-place-test.false)) c.loop-place.invariant
