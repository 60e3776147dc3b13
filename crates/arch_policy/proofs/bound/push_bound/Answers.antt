use Rattle.arch_policy.proofs.Common.{Adds, Edge, Some, YieldsList-end, YieldsList-from_first, YieldsList-turn, arith, edges_left, length, length_push, refl, rules, slice_get_read, subst, sym, ℕ, ◌≡◌}
use Rattle.arch_policy.proofs.Bounding.{Among, among_all, among_more, among_none}
use Rattle.arch_policy.proofs.bound.push_bound.Goals as goal

pub loop-handle-init : goal.loop-handle-init
loop-handle-init c = among_none c.args.handles.now c.args.signals.now c.args.edges.now

pub loop-handle-preserved : goal.loop-handle-preserved
loop-handle-preserved c =
    let handles = c.args.handles.now in
    let n : ℕ = length c.loop-handle.yielded in
    let start : edges_left c.into_iter-handle-iterator.result ≡ handles = search rules in
    let t = YieldsList-turn (YieldsList-from_first (λ (x : Edge). x) edges_left handles start) c.loop-handle.yielded
    c.loop-handle.handle-iterator c.loop-handle.yielded_by c.next.result c.next.new.self c.in-Some.handle c.in-Some.is
    c.next.ensures.steps in
    subst (λ (k : ℕ). Adds (Among handles c.args.signals.now k) c.args.edges.now c.push_bound_by.new.edges)
    (sym (length_push c.loop-handle.yielded c.in-Some.handle))
    (among_more handles c.args.signals.now n c.args.edges.now c.loop-handle.edges c.push_bound_by.new.edges
    (Some c.in-Some.handle) (sym (slice_get_read handles (length handles) n c.in-Some.handle refl t.0 t.1))
    c.loop-handle.invariant c.in_ok-push_bound_by.ensures)

pub returns : goal.returns
returns c =
    let handles = c.args.handles.now in
    let start : edges_left c.into_iter-handle-iterator.result ≡ handles = search rules in
    let t = YieldsList-end (YieldsList-from_first (λ (x : Edge). x) edges_left handles start) c.loop-handle.yielded
    c.loop-handle.handle-iterator c.loop-handle.yielded_by c.next.result c.next.new.self c.in-None.is c.next.ensures.steps in
    let long = t.1 in
    among_all handles c.args.signals.now (length c.loop-handle.yielded) c.args.edges.now c.loop-handle.edges (omega arith)
    c.loop-handle.invariant
