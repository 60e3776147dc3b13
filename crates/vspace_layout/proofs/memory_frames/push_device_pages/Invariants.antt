use Rattle.vspace_layout.proofs.Common.{device_frame, map, range_with_len, ◌++◌, ◌≡◌}
use Rattle.vspace_layout.proofs.memory_frames.push_device_pages.Given as goal

abbrev pub invariant-loop-page : goal.invariant-loop-page
invariant-loop-page l = l.frames ≡ l.fn.frames ++ map (device_frame l.leaf l.paddr) (range_with_len 0 l.page)
