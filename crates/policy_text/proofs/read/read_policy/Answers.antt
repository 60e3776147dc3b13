use Rattle.policy_text.proofs.Common.{HasFewEdges, ap, body, subst, sym, told, told_lines, ◌∙◌}
use Rattle.policy_text.specs.declared.kind.Kind.TheVariants as kinds
use Rattle.policy_text.proofs.Judging.{few_noted}
use Rattle.policy_text.proofs.Reading.{policy_wrong, policy_read}
use Rattle.policy_text.proofs.read.read_policy.Goals as goal

pub returns-in_err-check_lines-clause-read : goal.returns-in_err-check_lines-clause-read
returns-in_err-check_lines-clause-read c =
    policy_wrong c.in_ok-noted.noted.numbers c.args.bytes.now c.from_residual-in_err-check_lines.result
    c.in_err-check_lines.field-0.0 c.in_ok-check_head.ensures c.in_ok-noted.ensures.0 c.in_ok-noted.ensures.1
    (rw (ap told_lines c.as_slice.ensures.value ∙ c.in_ok-noted.ensures.4) at c.in_err-check_lines.ensures)
    c.from_residual-in_err-check_lines.ensures.1

pub returns-clause-read : goal.returns-clause-read
returns-clause-read c =
    (policy_read c.in_ok-noted.noted.numbers c.args.bytes.now c.in_ok-parts.parts c.in_ok-into_policy.field-0
    c.in_ok-check_head.ensures c.in_ok-noted.ensures.0 c.in_ok-noted.ensures.1
    (rw (ap told_lines c.as_slice.ensures.value ∙ c.in_ok-noted.ensures.4) at c.in_ok-check_lines.ensures)
    (rw (ap told_lines c.as_slice-2.ensures.value ∙ c.in_ok-noted.ensures.4) at c.in_ok-parts.ensures)
    c.in_ok-into_policy.ensures).0

pub returns-clause-kept : goal.returns-clause-kept
returns-clause-kept c =
    (policy_read c.in_ok-noted.noted.numbers c.args.bytes.now c.in_ok-parts.parts c.in_ok-into_policy.field-0
    c.in_ok-check_head.ensures c.in_ok-noted.ensures.0 c.in_ok-noted.ensures.1
    (rw (ap told_lines c.as_slice.ensures.value ∙ c.in_ok-noted.ensures.4) at c.in_ok-check_lines.ensures)
    (rw (ap told_lines c.as_slice-2.ensures.value ∙ c.in_ok-noted.ensures.4) at c.in_ok-parts.ensures)
    c.in_ok-into_policy.ensures).1

pub check_lines-requires-clause-few : goal.check_lines-requires-clause-few
check_lines-requires-clause-few c = λ few.
    subst HasFewEdges (sym (ap told_lines c.as_slice.ensures.value ∙ c.in_ok-noted.ensures.4))
    (few_noted (told kinds.Policy (body c.args.bytes.now)) c.in_ok-noted.noted.edges c.in_ok-noted.ensures.2 few)

pub check_lines-requires-clause-known : goal.check_lines-requires-clause-known
check_lines-requires-clause-known c = c.in_ok-noted.ensures.3
