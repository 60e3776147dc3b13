use Rattle.cap_model.proofs.Common.{Edge, IsBetween, IsSorted, List, ap, filter, has, rules, subst, sym, true, ◌↔◌, ◌∙◌, ◌≡◌}
use Rattle.cap_model.proofs.Ranges.{between_is, between_sorted, forward, lies_between}
use Rattle.cap_model.proofs.edge_set.EdgeSet.between.Goals as goal

pub range-requires : goal.range-requires
range-requires c = rw (c.new.ensures.start, c.new.ensures.end) (forward c.args.first c.args.last c.requires)

pub returns-clause-between : goal.returns-clause-between
returns-clause-between c =
    let items : c.in_ok-edges.edges.items ≡ c.range.result = search rules in
    let ranged = rw (c.new.ensures.start, c.new.ensures.end) at (c.range.ensures.between (search rules)) in
    let filtered : c.range.result ≡ filter (lies_between c.args.first c.args.last) c.args.self.now =
    ranged ∙ ap (λ (es : List Edge). filter (lies_between c.args.first c.args.last) es) c.self.view_is in
    λ e. subst (λ (es : List Edge). (has es e ≡ true) ↔ IsBetween c.args.self.now c.args.first c.args.last e)
    (sym (items ∙ filtered)) (between_is c.args.self.now c.args.first c.args.last e)

pub returns-clause-sorted : goal.returns-clause-sorted
returns-clause-sorted c =
    let items : c.in_ok-edges.edges.items ≡ c.range.result = search rules in
    let ranged = rw (c.new.ensures.start, c.new.ensures.end) at (c.range.ensures.between (search rules)) in
    subst IsSorted (sym (items ∙ ranged)) (between_sorted c.args.first c.args.last c.self.inside.edges.keys
    c.range.ensures.ordered)
