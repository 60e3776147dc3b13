use Rattle.policy_text.proofs.Common.{HasFewEdges, ap, body, subst, sym, told, told_lines, ◌∙◌}
use Rattle.policy_text.specs.declared.kind.Kind.TheVariants as kinds
use Rattle.policy_text.proofs.Judging.{few_noted}
use Rattle.policy_text.proofs.Reading.{cert_wrong, cert_read}
use Rattle.policy_text.proofs.read.read_cert.Goals as goal

pub returns-in_err-check_lines-clause-read : goal.returns-in_err-check_lines-clause-read
returns-in_err-check_lines-clause-read c =
    cert_wrong c.in_ok-numbers.numbers c.args.policy.now c.args.bytes.now c.from_residual-in_err-check_lines.result
    c.in_err-check_lines.field-0.0 c.in_ok-check_head.ensures c.in_ok-noted.ensures.0
    (rw c.as_slice.ensures at c.in_ok-numbers.ensures.each)
    (rw (ap told_lines c.as_slice-3.ensures.value ∙ c.in_ok-noted.ensures.4) at c.in_err-check_lines.ensures)
    c.from_residual-in_err-check_lines.ensures.1

pub returns-clause-read : goal.returns-clause-read
returns-clause-read c =
    (cert_read c.in_ok-numbers.numbers c.args.policy.now c.args.bytes.now c.in_ok-parts.parts c.in_ok-from_list.field-0
    c.in_ok-check_head.ensures c.in_ok-noted.ensures.0
    (rw c.as_slice.ensures at c.in_ok-numbers.ensures.each) c.in_ok-numbers.ensures.small
    (rw (ap told_lines c.as_slice-3.ensures.value ∙ c.in_ok-noted.ensures.4) at c.in_ok-check_lines.ensures)
    (rw (ap told_lines c.as_slice-4.ensures.value ∙ c.in_ok-noted.ensures.4) at c.in_ok-parts.ensures)
    c.in_ok-from_list.ensures.sorted
    (rw c.as_slice-5.ensures.value at c.in_ok-from_list.ensures.same)).0

pub returns-clause-labelled : goal.returns-clause-labelled
returns-clause-labelled c =
    (cert_read c.in_ok-numbers.numbers c.args.policy.now c.args.bytes.now c.in_ok-parts.parts c.in_ok-from_list.field-0
    c.in_ok-check_head.ensures c.in_ok-noted.ensures.0
    (rw c.as_slice.ensures at c.in_ok-numbers.ensures.each) c.in_ok-numbers.ensures.small
    (rw (ap told_lines c.as_slice-3.ensures.value ∙ c.in_ok-noted.ensures.4) at c.in_ok-check_lines.ensures)
    (rw (ap told_lines c.as_slice-4.ensures.value ∙ c.in_ok-noted.ensures.4) at c.in_ok-parts.ensures)
    c.in_ok-from_list.ensures.sorted
    (rw c.as_slice-5.ensures.value at c.in_ok-from_list.ensures.same)).1

pub check_lines-requires-clause-few : goal.check_lines-requires-clause-few
check_lines-requires-clause-few c = λ few.
    subst HasFewEdges (sym (ap told_lines c.as_slice-3.ensures.value ∙ c.in_ok-noted.ensures.4))
    (few_noted (told kinds.Certificate (body c.args.bytes.now)) c.in_ok-noted.noted.edges c.in_ok-noted.ensures.2 few)

pub check_lines-requires-clause-known : goal.check_lines-requires-clause-known
check_lines-requires-clause-known c = λ n less. (rw c.as_slice.ensures at c.in_ok-numbers.ensures.each) n
    ∙ (rw c.as_slice-2.ensures at c.near_labels.ensures) n less
