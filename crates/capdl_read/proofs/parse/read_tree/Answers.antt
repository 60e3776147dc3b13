use Rattle.capdl_read.proofs.Common.{IsParsed, IsTreeRead, Lexeme, List, passed_on, subst, tokens_of}
use Rattle.capdl_read.proofs.PartsRead.{not_lexed, parsed}
use Rattle.capdl_read.proofs.parse.read_tree.Goals as goal

pub returns-in_err-lexemes : goal.returns-in_err-lexemes
returns-in_err-lexemes c =
    passed_on (IsTreeRead c.args.bytes.now) c.from_residual.result c.in_err-lexemes.field-0.0 c.from_residual.ensures.1
    (not_lexed c.args.bytes.now c.in_err-lexemes.field-0.0 c.in_err-lexemes.ensures)

pub returns : goal.returns
returns c =
    parsed c.args.bytes.now (tokens_of c.args.bytes.now c.in_ok-lexemes.lexemes) c.parse.result c.in_ok-lexemes.ensures
    (subst (λ (ls : List Lexeme). IsParsed c.args.bytes.now (tokens_of c.args.bytes.now ls) c.parse.result) c.as_slice.ensures
    c.parse.ensures)
