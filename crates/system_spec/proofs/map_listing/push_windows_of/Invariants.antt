use Rattle.system_spec.proofs.Common.{Window, [], gather, take, window_line, ◌++◌, ◌∷◌, ◌≡◌}
use Rattle.system_spec.proofs.map_listing.push_windows_of.Given as goal

abbrev pub invariant-loop-window : goal.invariant-loop-window
invariant-loop-window l = l.lines ≡ l.fn.lines ++ gather (λ j (w : Window). window_line w ∷ []) (take l.window-index l.windows)
