use Rattle.arch_policy.proofs.Common.{FlatEnd, ap, gather, gather_turn, get_or_default, refl, take_all, told, ◌++◌, ◌∙◌}
use Rattle.arch_policy.proofs.Crossing.{from_end, from_ends}
use Rattle.arch_policy.proofs.edges.push_crossed.Goals as goal

pub loop-end-preserved : goal.loop-end-preserved
loop-end-preserved c =
    gather_turn (λ n (e : FlatEnd). from_end (told c.args.tables.now) c.args.authority c.args.ends.now e) c.args.ends.now _
    c.loop-end.end-index _ c.args.edges.now _ _ refl
    c.loop-end-test.true (get_or_default _ _ _ _ c.loop-end-test.true) c.loop-end.invariant c.in_ok-push_from.ensures

pub returns : goal.returns
returns c =
    let t = told c.args.tables.now in
    let old = c.args.edges.now in
    c.loop-end.invariant ∙ ap (λ es. old ++ gather (λ n (e : FlatEnd). from_end t c.args.authority c.args.ends.now e) es)
    (take_all c.loop-end.end-index c.args.ends.now c.loop-end-test.false)
    ∙ ap (λ z. old ++ z) (from_ends t c.args.authority c.args.ends.now)
