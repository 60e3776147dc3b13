use Rattle.cap_audit.proofs.Common.{List, Option, ap, map, root_mark, ℕ, ◌∙◌}
use Rattle.cap_audit.proofs.Kinding.{mark_of_roots}
use Rattle.cap_audit.proofs.kinds.root_marks.Goals as goal

pub returns : goal.returns
returns c =
    mark_of_roots c.args.spec.now c.in_ok-roots.roots.items c.in_ok-marks.marks.items c.in_ok-roots.ensures
    (c.in_ok-marks.ensures ∙ ap (λ (xs : List (Option ℕ)). map root_mark xs) c.as_slice.ensures.value)
