use Rattle.cap_audit.proofs.Common.{Contains-get_or, Gains, HasRoot, Made, Meets, OfCall, arith, get_or, slice_get-get_or, subst, sym, ℕ}
use Rattle.cap_audit.proofs.Gaining.{AtPlace, below_none, some_all, some_more}
use Rattle.cap_audit.proofs.making.Making.call_from_each.Goals as goal

pub loop-t-init : goal.loop-t-init
loop-t-init c = below_none (AtPlace (OfCall c.args.self.now.labels c.args.u c.args.peer.node) c.args.threads.now)
    c.args.self.now c.requires.so_far

pub call_one-requires-clause-meets : goal.call_one-requires-clause-meets
call_one-requires-clause-meets c = subst (λ (x : Made). Meets x.spec x.found c.args.at c.args.peer) (sym c.loop-t.invariant.same)
    c.requires.meets

pub call_one-requires-clause-root : goal.call_one-requires-clause-root
call_one-requires-clause-root c =
    subst (λ (x : Made). HasRoot x.spec (get_or c.args.threads.now c.loop-t.t-index 0) c.args.at.node)
    (sym c.loop-t.invariant.same)
    (c.requires.roots (get_or c.args.threads.now c.loop-t.t-index 0)
    (Contains-get_or c.args.threads.now c.loop-t.t-index 0 c.loop-t-test.true))

pub call_one-requires-clause-peer_root : goal.call_one-requires-clause-peer_root
call_one-requires-clause-peer_root c = subst (λ (x : Made). HasRoot x.spec c.args.u c.args.peer.node) (sym
    c.loop-t.invariant.same) c.requires.peer_root

pub loop-t-preserved : goal.loop-t-preserved
loop-t-preserved c =
    let m : Made = c.args.self.now in
    let t : ℕ = get_or c.args.threads.now c.loop-t.t-index 0 in
    some_more (OfCall m.labels c.args.u c.args.peer.node) c.args.threads.now c.loop-t.t-index t m c.loop-t.self
    c.call_one.new.self
    (slice_get-get_or c.args.threads.now c.loop-t.t-index 0 c.loop-t-test.true) c.loop-t.invariant
    (subst (λ (x : Made). Gains (OfCall x.labels c.args.u c.args.peer.node t) c.loop-t.self c.call_one.new.self)
    c.loop-t.invariant.same c.in_ok-call_one.ensures)

pub returns : goal.returns
returns c =
    some_all (OfCall c.args.self.now.labels c.args.u c.args.peer.node) c.args.threads.now c.loop-t.t-index c.args.self.now
    c.loop-t.self (let t = c.loop-t-test.false in omega arith) c.loop-t.invariant
