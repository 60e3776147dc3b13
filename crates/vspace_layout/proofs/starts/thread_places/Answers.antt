use Rattle.vspace_layout.proofs.Common.{None, ThreadOf, [], ap, get_or, start_at, thread, thread_at, ◌*◌, ◌++◌, ◌+◌, ◌∙◌, ◌∷◌}
use Rattle.vspace_layout.proofs.Laying.{placed}
use Rattle.vspace_layout.proofs.MemoryNumbers.{copy_turn}
use Rattle.vspace_layout.proofs.starts.thread_places.Goals as goal

pub loop-number-preserved : goal.loop-number-preserved
loop-number-preserved c =
    let i = c.loop-number.number in
    let starts = c.args.starts.now in
    copy_turn (λ n (x : ThreadOf). thread_at c.args.wiring.now.settled starts n x ∷ []) c.args.threads.now i (thread 0 None) []
    c.loop-number.places _ c.loop-number-test.true c.loop-number.invariant
    (c.in_ok-push.ensures.ok ∙ ap (λ n. c.loop-number.places ++ placed (get_or c.args.threads.now i (thread 0 None))
    (start_at starts (2 * i) + 4096 * n) (start_at starts (2 * i + 1)) ∷ []) c.stack_pages.ensures)
