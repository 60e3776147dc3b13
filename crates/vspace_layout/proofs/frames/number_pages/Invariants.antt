use Rattle.vspace_layout.proofs.Common.{MappedPage, [], gather, length, numbered_page, own_added, ◌++◌, ◌∷◌, ◌≡◌}
use Rattle.vspace_layout.proofs.frames.number_pages.Given as goal

abbrev pub invariant-loop-page : goal.invariant-loop-page
invariant-loop-page l = record {
  frames : l.frames ≡ l.fn.frames ++ own_added l.domain l.yielded;
  pages : l.pages ≡ gather (λ n (p : MappedPage). numbered_page l.domain l.firsts (length l.fn.frames) l.fn.mapped n p
      ∷ []) l.yielded;
}
