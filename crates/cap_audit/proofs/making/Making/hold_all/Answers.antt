use Rattle.cap_audit.proofs.Common.{Contains, Found, Gains, Made, OfFace, Some, ap, arith, held_by, length, slice_get, subst, sym, ◌≡◌}
use Rattle.cap_audit.proofs.Gaining.{AtPlace, below_none, some_all, some_more}
use Rattle.cap_audit.proofs.making.Making.hold_all.Goals as goal

pub loop-place-init : goal.loop-place-init
loop-place-init c =
    below_none (AtPlace (OfFace c.args.self.now.spec c.args.self.now.labels c.args.self.now.found c.args.self.now.faces)
    c.args.self.now.found.queue) c.args.self.now c.requires.so_far

pub pair-requires : goal.pair-requires
pair-requires c =
    let same = ap (λ (x : Made). length x.found.queue) c.loop-place.invariant.same in
    omega (arith, same, c.count-place-end.ensures, c.loop-place-test.true)

pub hold_pair-requires-clause-held : goal.hold_pair-requires-clause-held
hold_pair-requires-clause-held c =
    let found : c.loop-place.self.found ≡ c.args.self.now.found = ap (λ (x : Made). x.found) c.loop-place.invariant.same in
    let here : slice_get c.args.self.now.found.queue c.loop-place.place ≡ Some c.pair.result =
    subst (λ (f : Found). slice_get f.queue c.loop-place.place ≡ Some c.pair.result) found c.pair.ensures in
    subst (λ (f : Found). Contains (held_by f c.pair.result.node) c.pair.result.held) (sym found)
    (c.requires.all.queued c.loop-place.place c.pair.result here)

pub loop-place-preserved : goal.loop-place-preserved
loop-place-preserved c =
    let m : Made = c.args.self.now in
    let found : c.loop-place.self.found ≡ m.found = ap (λ (x : Made). x.found) c.loop-place.invariant.same in
    some_more (OfFace m.spec m.labels m.found m.faces) m.found.queue c.loop-place.place c.pair.result m c.loop-place.self
    c.hold_pair.new.self
    (subst (λ (f : Found). slice_get f.queue c.loop-place.place ≡ Some c.pair.result) found c.pair.ensures)
    c.loop-place.invariant (subst (λ (x : Made). Gains (OfFace x.spec x.labels x.found x.faces c.pair.result) c.loop-place.self c.hold_pair.new.self)
    c.loop-place.invariant.same c.in_ok-hold_pair.ensures)

pub returns : goal.returns
returns c =
    let m : Made = c.args.self.now in
    some_all (OfFace m.spec m.labels m.found m.faces) m.found.queue c.loop-place.place m c.loop-place.self
    (omega (arith, c.count-place-end.ensures, c.loop-place-test.false)) c.loop-place.invariant
