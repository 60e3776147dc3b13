use Rattle.arch_policy.proofs.Common.{FlatConnection, FlatEnd, append-nil, ap, gather, gather_turn, length, refl, signals_at, subst, sym, told, ◌++◌, ◌∙◌, ◌≤◌}
use Rattle.std.proofs.lemmas.List.{at_drop_all}
use Rattle.arch_policy.proofs.edges.push_signals.Goals as goal

pub loop-place-preserved : goal.loop-place-preserved
loop-place-preserved c =
    let t = told c.args.tables.now in
    let x = c.connection-item.result in
    let now = c.loop-end.edges in
    let f = λ (n : _) (e : FlatEnd). signals_at t c.loop-place.place x e in
    gather_turn (λ k (x : FlatConnection). gather (λ n (e : FlatEnd). signals_at t k x e) x.ends)
    c.args.tables.now.flat.now.connections _ c.loop-place.place _ c.args.edges.now _ now c.as_slice-connection-items.ensures
    c.loop-place-test.true c.connection-item.is refl
    (sym (append-nil now)
    ∙ ap (λ z. now ++ z) (sym (at_drop_all (gather f) x.ends c.loop-end.end-index
    (subst (λ z. length z ≤ c.loop-end.end-index) c.as_slice-end-items.ensures c.loop-end-test.false)))
    ∙ c.loop-end.invariant)
