use Rattle.vspace_layout.proofs.Common.{EndAt, [], ap, get_or, start_at, window_place, ◌++◌, ◌+◌, ◌∙◌, ◌∷◌}
use Rattle.vspace_layout.proofs.Laying.{seen_at}
use Rattle.vspace_layout.proofs.MemoryNumbers.{copy_turn}
use Rattle.vspace_layout.proofs.starts.window_places.Goals as goal

pub loop-number-preserved : goal.loop-number-preserved
loop-number-preserved c =
    let none : EndAt = record { connection = 0; end = 0 } in
    let i = c.loop-number.number in
    let s = c.args.wiring.now in
    copy_turn (λ j (e : EndAt). window_place s.flat s.settled c.args.starts.now (c.args.first + j) e ∷ [])
    c.args.windows.now i none [] c.loop-number.places _ c.loop-number-test.true c.loop-number.invariant
    (c.in_ok-push.ensures.ok ∙ ap (λ n. c.loop-number.places ++ seen_at (get_or c.args.windows.now i none)
    (start_at c.args.starts.now (c.args.first + i)) n ∷ []) c.window_pages.ensures)
