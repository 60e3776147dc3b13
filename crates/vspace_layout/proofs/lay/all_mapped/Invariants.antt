use Rattle.vspace_layout.proofs.Common.{Domain, [], gather, mapped_of, no_outline, slice_index_or, take, ◌∷◌, ◌≡◌}
use Rattle.vspace_layout.proofs.lay.all_mapped.Given as goal

abbrev pub invariant-loop-number : goal.invariant-loop-number
invariant-loop-number l =
    l.all.items ≡ gather (λ n (d : Domain). mapped_of l.wiring.settled l.images d.leaves
    (slice_index_or l.outlines n no_outline).regions ∷ []) (take l.number l.wiring.flat.domains)
