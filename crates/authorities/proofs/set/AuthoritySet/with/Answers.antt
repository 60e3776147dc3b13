use Rattle.std.proofs.Common.{arith}
use Rattle.authorities.specs.Authorities.{number_of}
use Rattle.authorities.proofs.AuthorityBits.{number_of-lt, bit_at-added, added-lt}
use Rattle.authorities.proofs.set.AuthoritySet.with.Goals as goal

pub returns-clause-each : goal.returns-clause-each
returns-clause-each c b = let number = c.number.ensures in let below = number_of-lt c.args.a in
    rw number (bit_at-added c.args.self.bits (number_of c.args.a) (number_of b) (omega arith))

pub returns-clause-no_more : goal.returns-clause-no_more
returns-clause-no_more c below =
    rw c.number.ensures (added-lt c.args.self.bits (number_of c.args.a) (number_of-lt c.args.a) below)
