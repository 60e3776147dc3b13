use Rattle.capdl_read.proofs.Common.{[], behind_one, length, list_of, many, mark_code, token_code, with_front, ◌∷◌, ◌≡◌}
use Rattle.capdl_text.specs.declared.token.Mark.TheVariants as marks
use Rattle.capdl_read.proofs.line.listed.Given as goal

-- what is read so far, and what the rest gives, are what all tokens give
abbrev pub invariant-more : goal.invariant-more
invariant-more g l =
    let c = mark_code marks.Comma in
    let r = g.L.Line.gives in
    with_front l.items (many token_code (c ∷ []) (behind_one token_code (c ∷ []) r) l.at) ≡ list_of token_code c r l.fn.at

abbrev pub decreases-more : goal.decreases-more
decreases-more g l = length l.at
