use Rattle.vspace_layout.proofs.Common.{gather, starting, take, ◌++◌, ◌≡◌}
use Rattle.vspace_layout.proofs.mapped.push_regions.Given as goal

abbrev pub invariant-loop-number : goal.invariant-loop-number
invariant-loop-number l = l.pages.items ≡ l.fn.pages.items ++ gather (starting l.wiring.settled l.starts)
    (take l.number l.regions)
