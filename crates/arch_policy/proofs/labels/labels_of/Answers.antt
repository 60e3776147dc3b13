use Rattle.arch_policy.proofs.Common.{ap, firsts, in_order, label_texts, length, subst, sym, ◌<◌, ◌^◌, ◌∙◌, ◌≡◌}
use Rattle.arch_policy.proofs.Labelled.{few_texts}
use Rattle.arch_policy.proofs.labels.labels_of.Goals as goal

pub label_numbers-requires-clause-ordered : goal.label_numbers-requires-clause-ordered
label_numbers-requires-clause-ordered c = (firsts c.in_ok-all_texts.field-0, c.as_slice.ensures ∙ c.in_ok-texts.ensures)

pub label_numbers-requires-clause-few : goal.label_numbers-requires-clause-few
label_numbers-requires-clause-few c =
    let are : c.as_slice.result.now ≡ label_texts c.args.flat.now = c.as_slice.ensures ∙ c.in_ok-texts.ensures
    ∙ ap in_order c.in_ok-all_texts.ensures in
    subst (λ z. length z < 2 ^ 32) (sym are) (few_texts c.args.flat.now c.requires)
