use Rattle.arch_policy.proofs.Common.{FlatConnection, FlatEnd, [], ap, end_edges, gather, gather_turn, get_or_default, length, refl, subst, take, take_all, told, ◌++◌, ◌∙◌, ◌≤◌}
use Rattle.arch_policy.proofs.edges.direct_edges.Goals as goal

pub loop-number-preserved : goal.loop-number-preserved
loop-number-preserved c =
    let t = told c.args.tables.now in
    let before = gather (λ k (x : FlatConnection). gather (λ n (e : FlatEnd). end_edges t k x n e) x.ends)
    (take c.loop-place.place c.args.tables.now.flat.now.connections) in
    gather_turn (λ n (e : FlatEnd). end_edges t c.loop-place.place c.connection-item.result n e)
    c.connection-item.result.ends _ c.loop-number.number _ before _ _ c.as_slice-end-items.ensures
    c.loop-number-test.true (get_or_default _ _ _ _ c.loop-number-test.true) c.loop-number.invariant c.in_ok-push_all.ensures

pub loop-place-preserved : goal.loop-place-preserved
loop-place-preserved c =
    let t = told c.args.tables.now in
    let x = c.connection-item.result in
    let before = gather (λ k (x : FlatConnection). gather (λ n (e : FlatEnd). end_edges t k x n e) x.ends)
    (take c.loop-place.place c.args.tables.now.flat.now.connections) in
    gather_turn (λ k (x : FlatConnection). gather (λ n (e : FlatEnd). end_edges t k x n e) x.ends)
    c.args.tables.now.flat.now.connections _ c.loop-place.place _ [] before _ c.as_slice-connection-items.ensures
    c.loop-place-test.true c.connection-item.is refl
    (c.loop-number.invariant
    ∙ ap (λ es. before ++ gather (λ n (e : FlatEnd). end_edges t c.loop-place.place x n e) es)
    (take_all c.loop-number.number x.ends (subst (λ z. length z ≤ c.loop-number.number) c.as_slice-end-items.ensures
    c.loop-number-test.false)))
