-- From what the lexer and the grammar answer to what reading a tree answers.
use Rattle.capdl_read.proofs.Common.{AreLexemes, Err, IsParsed, IsTreeRead, List, Ok, Refused, Result, SpecTree, TextFault, Token, of_syntax, of_tokens, ℕ}
use Rattle.cam_base.specs.declared.error.Refused.TheVariants as refused
use Rattle.capdl_text.specs.Lexes.{Lexes}

pub not_lexed : (bytes : List ℕ) (e : Refused TextFault) → AreLexemes bytes (Err e) → IsTreeRead bytes (Err e)
not_lexed bytes (refused.Fault f) is = λ few. of_tokens few is
not_lexed bytes refused.NoMemory is = tt

pub parsed : (bytes : List ℕ) (tokens : List Token) (r : Result SpecTree (Refused TextFault)) → Lexes bytes tokens
    → IsParsed bytes tokens r → IsTreeRead bytes r
parsed bytes tokens (Ok tree) lexes p = (tokens, lexes, p)
parsed bytes tokens (Err (refused.Fault f)) lexes p = λ few. of_syntax few tokens lexes p.0 p.1 p.2 p.3
parsed bytes tokens (Err refused.NoMemory) lexes p = tt
