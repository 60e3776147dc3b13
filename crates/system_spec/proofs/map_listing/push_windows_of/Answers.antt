use Rattle.system_spec.proofs.Common.{Window, [], arith, gather_turn, get_or, get_or_default, read_in, refl, window_line, ◌∷◌}
use Rattle.system_spec.proofs.map_listing.push_windows_of.Goals as goal

pub overflow_mul-bytes : goal.overflow_mul-bytes
overflow_mul-bytes c =
    let none : Window = record { end = record { connection = 0; end = 0 }; vaddr = 0; pages = 0 } in
    let sized = c.requires (get_or c.args.windows.now c.loop-window.window-index none)
    (read_in c.args.windows.now c.loop-window.window-index none c.loop-window-test.true) in
    omega (arith, sized)

pub loop-window-preserved : goal.loop-window-preserved
loop-window-preserved c =
    gather_turn (λ j (w : Window). window_line w ∷ []) c.args.windows.now c.args.windows.now c.loop-window.window-index _
    c.args.lines.now _ _
    refl c.loop-window-test.true (get_or_default _ _ _ _ c.loop-window-test.true) c.loop-window.invariant c.in_ok-push.ensures.ok
