use Rattle.cap_machine.proofs.Common.{edge, sym, ◌∙◌}
use Rattle.cap_machine.proofs.boot_edges.direct.Goals as goal

pub returns : goal.returns
returns c = λ l a m.
    let same = rw c.as_slice.ensures.value at c.in_ok-table.ensures.same in
    let are = c.in_ok-edges.ensures l a m in
    (λ h. are.0 (sym (same (edge l a m)) ∙ h), λ h. same (edge l a m) ∙ are.1 h)
