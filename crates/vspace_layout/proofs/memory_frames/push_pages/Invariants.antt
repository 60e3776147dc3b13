use Rattle.vspace_layout.proofs.Common.{None, OfConnection, frame, map, range_with_len, ℕ, ◌++◌, ◌≡◌}
use Rattle.vspace_layout.proofs.memory_frames.push_pages.Given as goal

abbrev pub invariant-loop-page : goal.invariant-loop-page
invariant-loop-page l = l.frames ≡ l.fn.frames ++ map (λ (j : ℕ). frame (OfConnection l.number) None None)
    (range_with_len 0 l._page)
