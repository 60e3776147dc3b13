use Rattle.cap_audit.proofs.Common.{Contains, Contains-get_or, Gains, HasRoot, List, Made, Meets, OfCall, OfSome, arith, get_or, row_at, slice_get-get_or, subst, sym, ℕ}
use Rattle.cap_audit.proofs.Gaining.{AtPlace, below_none, some_all, some_more}
use Rattle.cap_audit.proofs.making.Making.call_between.Goals as goal

pub loop-u-init : goal.loop-u-init
loop-u-init c =
    below_none (AtPlace (λ (u : ℕ). OfSome (OfCall c.args.self.now.labels u c.args.peer.node) c.row-callers.result.now)
    c.row-peers.result.now) c.args.self.now c.requires.so_far

pub call_from_each-requires-clause-meets : goal.call_from_each-requires-clause-meets
call_from_each-requires-clause-meets c = subst (λ (x : Made). Meets x.spec x.found c.args.at c.args.peer)
    (sym c.loop-u.invariant.same) c.requires.meets

pub call_from_each-requires-clause-roots : goal.call_from_each-requires-clause-roots
call_from_each-requires-clause-roots c = λ t there.
    subst (λ (x : Made). HasRoot x.spec t c.args.at.node) (sym c.loop-u.invariant.same)
    (c.requires.rosters.rooted c.args.at.node t (subst (λ (xs : List ℕ). Contains xs t) c.row-callers.ensures there))

pub call_from_each-requires-clause-peer_root : goal.call_from_each-requires-clause-peer_root
call_from_each-requires-clause-peer_root c =
    let u : ℕ = get_or c.row-peers.result.now c.loop-u.u-index 0 in
    subst (λ (x : Made). HasRoot x.spec u c.args.peer.node) (sym c.loop-u.invariant.same)
    (c.requires.rosters.rooted c.args.peer.node u (subst (λ (xs : List ℕ). Contains xs u) c.row-peers.ensures
    (Contains-get_or c.row-peers.result.now c.loop-u.u-index 0 c.loop-u-test.true)))

pub loop-u-preserved : goal.loop-u-preserved
loop-u-preserved c =
    let m : Made = c.args.self.now in
    let u : ℕ = get_or c.row-peers.result.now c.loop-u.u-index 0 in
    some_more (λ (u : ℕ). OfSome (OfCall m.labels u c.args.peer.node) c.row-callers.result.now)
    c.row-peers.result.now c.loop-u.u-index u m c.loop-u.self c.call_from_each.new.self
    (slice_get-get_or c.row-peers.result.now c.loop-u.u-index 0 c.loop-u-test.true) c.loop-u.invariant
    (subst (λ (x : Made). Gains (OfSome (OfCall x.labels u c.args.peer.node) c.row-callers.result.now) c.loop-u.self
    c.call_from_each.new.self) c.loop-u.invariant.same c.in_ok-call_from_each.ensures)

pub returns : goal.returns
returns c =
    let m : Made = c.args.self.now in
    let all =
    some_all (λ (u : ℕ). OfSome (OfCall m.labels u c.args.peer.node) c.row-callers.result.now)
    c.row-peers.result.now c.loop-u.u-index m c.loop-u.self (let t = c.loop-u-test.false in omega arith)
    c.loop-u.invariant in
    subst
    (λ (ps : List ℕ).
    Gains (OfSome (λ (u : ℕ). OfSome (OfCall m.labels u c.args.peer.node) (row_at c.args.rosters.now c.args.at.node)) ps) m
    c.loop-u.self) c.row-peers.ensures
    (subst (λ (cs : List ℕ). Gains (OfSome (λ (u : ℕ). OfSome (OfCall m.labels u c.args.peer.node) cs)
    c.row-peers.result.now) m c.loop-u.self) c.row-callers.ensures all)
