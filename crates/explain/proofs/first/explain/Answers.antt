use Rattle.explain.proofs.Common.{IsAsked, IsFirstReason, Some, Tables, length, subst, sym, ◌<◌, ◌^◌, ◌∙◌, ◌≡◌}
use Rattle.arch_policy.specs.declared.numbers.LabelNumbers.{LabelNumbers}
use Rattle.arch_policy.specs.Labels.{label_texts}
use Rattle.arch_policy.proofs.Labelled.{few_texts}
use Rattle.explain.proofs.first.explain.Goals as goal

pub asked_edge-requires : goal.asked_edge-requires
asked_edge-requires c =
    let are : c.as_slice.result.now ≡ label_texts c.args.flat.now = c.as_slice.ensures ∙ c.in_ok-texts.ensures.texts in
    subst (λ z. length z < 2 ^ 32) (sym are) (few_texts c.args.flat.now c.requires.few)

pub returns-in_default : goal.returns-in_default
returns-in_default c e asked r =
    let are : c.as_slice.result.now ≡ label_texts c.args.flat.now = c.as_slice.ensures ∙ c.in_ok-texts.ensures.texts in
    c.in_default.ensures e (subst (λ ts. IsAsked ts c.args.from.now c.args.authority c.args.to.now e) (sym are) asked)

pub returns-in-Some-2 : goal.returns-in-Some-2
returns-in-Some-2 c =
    let are : c.as_slice.result.now ≡ label_texts c.args.flat.now = c.as_slice.ensures ∙ c.in_ok-texts.ensures.texts in
    let T : LabelNumbers → Tables = λ n. record {
      source = c.args.source.now;
      flat = c.args.flat.now;
      settled = c.args.settled.now;
      numbers = n;
    } in
    let edge = c.in-Some.edge in (
      edge,
      subst (λ ts. IsAsked ts c.args.from.now c.args.authority c.args.to.now edge) are c.in-Some.ensures,
      subst (λ n. IsFirstReason (T n) edge (Some c.in-Some-2.reason)) c.in_ok-texts.ensures.numbers
          (subst (λ o. IsFirstReason (T c.in_ok-texts.field-0.numbers) edge o) c.in-Some-2.is c.in_ok-reason.ensures),
    )
