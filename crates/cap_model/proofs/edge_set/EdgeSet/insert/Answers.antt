use Rattle.cap_model.proofs.Common.{Edge, List, ap, has, length, same_edge, ◌+◌, ◌||◌, ◌∙◌}
use Rattle.cap_model.proofs.Comparing.{inserted_length, inserted_same}
use Rattle.cap_model.proofs.edge_set.EdgeSet.insert.Goals as goal

pub returns-clause-has : goal.returns-clause-has
returns-clause-has c = λ e.
    inserted_same c.self.inside.edges.keys c.insert.new.self.keys c.args.edge (λ q. c.in_ok-insert.ensures.updates.0 q) e
    ∙ ap (λ (es : List Edge). has es e || same_edge c.args.edge e) c.self.view_is

pub returns-clause-len : goal.returns-clause-len
returns-clause-len c = λ none.
    inserted_length c.self.inside.edges.keys c.insert.new.self.keys c.args.edge c.in_ok-insert.field-0
    (ap (λ (es : List Edge). has es c.args.edge) c.self.view_is ∙ none) c.in_ok-insert.ensures.added
    c.in_ok-insert.ensures.len
    ∙ ap (λ (es : List Edge). length es + 1) c.self.view_is
