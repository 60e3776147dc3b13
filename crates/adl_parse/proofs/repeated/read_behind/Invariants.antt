use Rattle.adl_parse.proofs.Common.{Many, length, reads, with_front, ◌≡◌}
use Rattle.adl_parse.proofs.repeated.read_behind.Given as goal

-- what is read so far, and what the rest gives, are what all tokens give
abbrev pub invariant-more : goal.invariant-more
invariant-more g l = with_front l.items (reads (Many g.R.Repeated.form) l.at) ≡ with_front l.fn.before
    (reads (Many g.R.Repeated.form) l.fn.at)

abbrev pub decreases-more : goal.decreases-more
decreases-more g l = length l.at
