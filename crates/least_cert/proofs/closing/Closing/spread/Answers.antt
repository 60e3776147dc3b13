use Rattle.least_cert.proofs.Common.{Adds, Edge, List, OfFirst, all_first, arith, filter_map, first_more_at, has, length, none_first, refl, stays, subst, sym, true, ◌+◌, ◌≡◌}
use Rattle.least_cert.proofs.Spreading.{copy_at, each_knows, is_spread, some_knows, spread_least}
use Rattle.least_cert.proofs.closing.Closing.spread.Goals as goal

pub loop-label-init : goal.loop-label-init
loop-label-init c =
    subst (λ (xs : List Edge). Adds (OfFirst (copy_at c.args.self.now) c.args.self.now.leaders 0)
    (filter_map (stays (length c.args.self.now.leaders)) c.args.self.now.queue) xs) (sym c.in_ok-edges.ensures)
    (none_first (copy_at c.args.self.now) c.args.self.now.leaders (filter_map (stays (length c.args.self.now.leaders))
    c.args.self.now.queue))

pub loop-label-preserved : goal.loop-label-preserved
loop-label-preserved c =
    first_more_at (copy_at c.args.self.now) c.args.self.now.leaders c.loop-label.label c.loop-label.label
    (filter_map (stays (length c.args.self.now.leaders)) c.args.self.now.queue) c.loop-label.edges.items
    c.in_ok-edges-2.edges.items
    (rw c.places-label-end.ensures at c.loop-label-test.true) c.loop-label.invariant
    (rw c.leader.ensures at c.in_ok-edges-2.ensures)

pub bound-requires : goal.bound-requires
bound-requires c = λ e h.
    spread_least c.args.self.now c.requires c.in_ok-edges-2.edges.items
    (some_knows c.args.self.now c.requires (OfFirst (copy_at c.args.self.now) c.args.self.now.leaders (c.loop-label.label + 1))
    (filter_map (stays (length c.args.self.now.leaders)) c.args.self.now.queue) c.in_ok-edges-2.edges.items refl
    (first_more_at (copy_at c.args.self.now) c.args.self.now.leaders c.loop-label.label c.loop-label.label
    (filter_map (stays (length c.args.self.now.leaders)) c.args.self.now.queue) c.loop-label.edges.items
    c.in_ok-edges-2.edges.items
    (rw c.places-label-end.ensures at c.loop-label-test.true) c.loop-label.invariant
    (rw c.leader.ensures at c.in_ok-edges-2.ensures))
    (λ d of. each_knows c.args.self.now c.requires d of.of_each)) e (subst (λ (xs : List Edge). has xs e ≡ true)
    c.as_slice.ensures.value h)

pub returns-clause-spread : goal.returns-clause-spread
returns-clause-spread c =
    is_spread c.args.self.now c.requires (filter_map (stays (length c.args.self.now.leaders)) c.args.self.now.queue)
    c.loop-label.edges.items refl
    (all_first (copy_at c.args.self.now) c.args.self.now.leaders c.loop-label.label
    (filter_map (stays (length c.args.self.now.leaders)) c.args.self.now.queue) c.loop-label.edges.items
    (let t = c.loop-label-test.false in let p = c.places-label-end.ensures in omega arith) c.loop-label.invariant)
