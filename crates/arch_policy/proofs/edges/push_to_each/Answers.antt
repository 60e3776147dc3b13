use Rattle.arch_policy.proofs.Common.{FlatEnd, From, ap, append-nil, edge, gather, leaf_label, same_role, sym, told, where_true, ℕ, ◌++◌, ◌∙◌}
use Rattle.std.proofs.lemmas.List.{at_drop_all}
use Rattle.arch_policy.proofs.Crossing.{to_ends}
use Rattle.arch_policy.proofs.edges.push_to_each.Goals as goal

pub returns : goal.returns
returns c =
    let t = told c.args.tables.now in
    let old = c.args.edges.now in
    let now = c.loop-end.edges in
    let f = λ (n : ℕ) (e : FlatEnd). where_true (same_role e.role From)
    (edge c.args.from c.args.authority (leaf_label t e.leaf)) in
    sym (append-nil now) ∙ ap (λ z. now ++ z) (sym (at_drop_all (gather f) c.args.ends.now c.loop-end.end-index
    c.loop-end-test.false))
    ∙ c.loop-end.invariant ∙ ap (λ z. old ++ z) (to_ends t c.args.from c.args.authority c.args.ends.now)
