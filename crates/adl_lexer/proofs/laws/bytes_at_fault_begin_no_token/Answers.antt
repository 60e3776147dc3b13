use Rattle.adl_lexer.proofs.NoToken.{byte_begins_nothing}
use Rattle.adl_lexer.proofs.laws.bytes_at_fault_begin_no_token.Goals as goal

pub returns : goal.returns
returns c = byte_begins_nothing
