use Rattle.vspace_layout.proofs.Common.{List, MappedPage, [], before, gather, length, own_added, pages_numbered, ◌++◌, ◌+◌, ◌∷◌, ◌≡◌}
use Rattle.vspace_layout.proofs.frames.number_all.Given as goal

abbrev pub invariant-loop-pages : goal.invariant-loop-pages
invariant-loop-pages l = record {
  count : l.domain ≡ length l.yielded;
  frames : l.frames ≡ l.fn.frames ++ gather own_added l.yielded;
  all : l.all.items ≡ gather (λ d (ps : List MappedPage). pages_numbered d l.firsts
      (length l.fn.frames + before own_added l.fn.mapped.items d) ps ∷ []) l.yielded;
}
