use Rattle.view_tool.proofs.Common.{Explains, List, ap, few_labels, label_at, sound_within, subst, tables_of, told, ℕ, ◌∙◌, ◌≡◌}
use Rattle.view_tool.proofs.Noting.{note_is}
use Rattle.view_tool.proofs.reasons.note_of.Goals as goal

pub explain-reason-requires-clause-within : goal.explain-reason-requires-clause-within
explain-reason-requires-clause-within c = let f = told c.args.grounds.now in sound_within f.source f.flat f.settled c.requires

pub explain-reason-requires-clause-few : goal.explain-reason-requires-clause-few
explain-reason-requires-clause-few c = let f = told c.args.grounds.now in few_labels f.source f.flat f.settled c.requires

pub returns : goal.returns
returns c =
    let f = told c.args.grounds.now in
    let e = c.args.edge.now in
    let here = λ (t : List ℕ) (at : ℕ) (is : t ≡ label_at c.as_slice-labels.result.now at). is
    ∙ ap (λ ls. label_at ls at) c.as_slice-labels.ensures in
    note_is f e c.explain-reason.result c.note_text.result
    (subst (λ t. Explains (tables_of f.source f.flat f.settled) t e.authority (label_at f.policy.labels e.to)
    c.explain-reason.result)
    (here c.label_at-from.result.now e.from c.label_at-from.ensures)
    (subst (λ t. Explains (tables_of f.source f.flat f.settled) c.label_at-from.result.now e.authority t c.explain-reason.result)
    (here c.label_at-to.result.now e.to c.label_at-to.ensures) c.explain-reason.ensures))
    c.note_text.ensures
