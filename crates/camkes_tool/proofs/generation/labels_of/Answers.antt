use Rattle.camkes_tool.proofs.Common.{Some, ap, map, ◌∙◌}
use Rattle.camkes_tool.proofs.generation.labels_of.Goals as goal

pub returns-clause-labels : goal.returns-clause-labels
returns-clause-labels c =
    let beside = c.from_vec.ensures ∙ c.in_ok-labels.ensures ∙ ap (λ os. map (λ o. o.1) os) c.as_slice.ensures in
    ap (λ ls. map (λ n. Some n) ls) beside ∙ c.requires.labelled
