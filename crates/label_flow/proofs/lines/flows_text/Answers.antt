use Rattle.label_flow.proofs.Common.{List, [], ap, ℕ, ◌++◌, ◌+◌, ◌∙◌, ◌∷◌, ◌≡◌}
use Rattle.label_flow.proofs.Growing.{line_more}
use Rattle.label_flow.proofs.lines.flows_text.Goals as goal

pub loop-label-preserved : goal.loop-label-preserved
loop-label-preserved c =
    line_more c.args.policy.now.edges c.args.policy.now.labels c.as_slice-labels.result.now c.loop-label.label-index _
    c.loop-label.text _ c.in_ok-line.line c.as_slice-labels.ensures c.loop-label-test.true c.label-item.is
    c.loop-label.invariant (rw (← c.in_ok-upstream.ensures, ← c.as_slice-labels.ensures) c.in_ok-line.ensures)
    (c.in_ok-extend.ensures.ok ∙ ap (λ (t : List ℕ). c.loop-label.text ++ t) c.as_slice.ensures)
