use Rattle.view_tool.proofs.Common.{Gives, List, codes, refusal, subst, ℕ}
use Rattle.view_tool.specs.declared.answer.Answer.TheVariants as answers
use Rattle.view_tool.proofs.fault.hindered.Goals as goal

pub returns-in-TooLong : goal.returns-in-TooLong
returns-in-TooLong c =
    rw c.in-TooLong.is
    (subst (λ (n : List ℕ). Gives (answers.Refused (refusal n (codes "too long"))) c.refuse-in-TooLong.result)
    c.as_bytes-in-TooLong.ensures.value c.refuse-in-TooLong.ensures)
