use Rattle.adl_flatten.proofs.TemplateCommon.{false, get_or, list_any, take, ℕ, ◌==◌, ◌||◌, ◌≡◌}
use Rattle.adl_flatten.proofs.held.mark_inner.Given as goal

abbrev pub invariant-loop-part : goal.invariant-loop-part
invariant-loop-part l = (k : ℕ)
    → get_or l.marks k false ≡ (get_or l.initial.marks k false || list_any (λ x. k == x.kind) (take l.part-index l.parts))
