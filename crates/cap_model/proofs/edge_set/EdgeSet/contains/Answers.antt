use Rattle.cap_model.proofs.Common.{ap, has, ◌∙◌}
use Rattle.cap_model.proofs.Comparing.{contains_same}
use Rattle.cap_model.proofs.edge_set.EdgeSet.contains.Goals as goal

pub returns : goal.returns
returns c = c.contains.ensures ∙ contains_same c.self.inside.edges.keys c.args.edge.now ∙ ap (λ es. has es c.args.edge.now)
    c.self.view_is
