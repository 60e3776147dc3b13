-- What is given where a text may want memory.
use Rattle.view_tool.proofs.Common.{Answer, Err, Gives, IfOk, List, NoMemory, Ok, OnErr, Result, ap, subst, sym, ℕ, ◌≡◌}
use Rattle.view_tool.specs.declared.answer.Answer.TheVariants as answers

pub fault_given :
    (t : List ℕ) (r : Result (List ℕ) NoMemory) (a : Answer) →
    IfOk r (λ x. x ≡ t) → IfOk r (λ x. a ≡ answers.ReadFault x) → OnErr r (a ≡ answers.NoMemory) → Gives (answers.ReadFault t) a
fault_given t (Ok x) a e h n =
    subst (λ (z : Answer). Gives (answers.ReadFault t) z) (sym h) (ap (λ (z : List ℕ). answers.ReadFault z) (sym e))
fault_given t (Err m) a e h n = subst (λ (z : Answer). Gives (answers.ReadFault t) z) (sym n) tt
