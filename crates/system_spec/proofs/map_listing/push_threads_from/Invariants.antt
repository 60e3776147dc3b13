use Rattle.system_spec.proofs.Common.{take, thread_lines_from, ◌++◌, ◌≡◌}
use Rattle.system_spec.proofs.map_listing.push_threads_from.Given as goal

abbrev pub invariant-loop-number : goal.invariant-loop-number
invariant-loop-number l = l.lines ≡ l.fn.lines ++ thread_lines_from l.first (take l.number l.threads)
