use Rattle.capdl_read.proofs.Common.{length, many, token_code, with_front, ◌≡◌}
use Rattle.capdl_read.proofs.line.all.Given as goal

-- what is read so far, and what the rest gives, are what all tokens give
abbrev pub invariant-more : goal.invariant-more
invariant-more g l =
    let reading = many token_code g.L.Line.codes g.L.Line.gives in
    with_front l.items (reading l.at) ≡ reading l.fn.at

abbrev pub decreases-more : goal.decreases-more
decreases-more g l = length l.at
