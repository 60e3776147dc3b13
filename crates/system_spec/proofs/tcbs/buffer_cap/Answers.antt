use Rattle.system_spec.proofs.Common.{arith, sym, ◌∙◌}
use Rattle.system_spec.proofs.Finding.{frame_found}
use Rattle.system_spec.proofs.tcbs.buffer_cap.Goals as goal

pub overflow_add-result : goal.overflow_add-result
overflow_add-result c =
    let p = frame_found c.args.at c.args.pages.now c.in_ok-frame.frame (sym c.frame_at.ensures ∙ c.in_ok-frame.was) in
    let below = c.requires.shown p.0 p.1 in
    let same = p.2 in
    omega (arith, below, same)
