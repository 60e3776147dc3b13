use Rattle.adl_lexer.proofs.Common.{arith, length}
use Rattle.adl_lexer.proofs.Places.{rise_from}
use Rattle.adl_lexer.proofs.laws.places_rise.Goals as goal

pub returns : goal.returns
returns c = λ file bytes ts l. rise_from file (length bytes) 0 bytes ts (omega arith) (omega arith) l
