use Rattle.arch_policy.proofs.Common.{label_texts, length, subst, sym, ◌<◌, ◌^◌, ◌≡◌}
use Rattle.arch_policy.proofs.Labelled.{few_texts}
use Rattle.arch_policy.proofs.policy.policy_of.Goals as goal

pub label_lines-requires : goal.label_lines-requires
label_lines-requires c =
    let are : c.in_ok-texts.field-0.texts ≡ label_texts c.args.flat.now = c.in_ok-texts.ensures.texts in
    subst (λ z. length z < 2 ^ 32) (sym are) (few_texts c.args.flat.now c.requires.few)
