use Rattle.arch_policy.proofs.Common.{arith, leaf_label, subst, sym, told, ℕ, ◌≡◌, ◌≢◌}
use Rattle.arch_policy.proofs.Listed.{none_of_another}
use Rattle.arch_policy.proofs.edges.EndHere.gives.Goals as goal

pub returns-then-leaf_label-edge : goal.returns-then-leaf_label-edge
returns-then-leaf_label-edge c =
    let here = c.args.self in
    let differ : leaf_label (told here.tables) here.end.leaf ≢ c.args.edge.from =
    subst (λ (n : ℕ). n ≢ c.args.edge.from) c.leaf_label.ensures c.if-leaf_label-edge.true in
    sym (none_of_another (told here.tables) here.place here.number here.connection.now here.end c.args.edge differ)
