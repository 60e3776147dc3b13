use Rattle.vspace_layout.proofs.Common.{Outline, [], gather, length, slice_index_or, space_in, take, ◌∷◌, ◌≡◌}
use Rattle.vspace_layout.proofs.lay.spaces_with.Given as goal

abbrev pub invariant-loop-pages : goal.invariant-loop-pages
invariant-loop-pages l = record {
  count : l.domain ≡ length l.yielded;
  spaces : l.spaces ≡ gather (λ d (o : Outline). space_in l.wiring.flat l.wiring.settled l.base o
      (slice_index_or l.fn.all.items d []) ∷ []) (take l.domain l.outlines);
}
