use Rattle.adl_lexer.proofs.Common.{Some, ap, arith, drop, length, length-drop, sym, take_all, ◌+◌, ◌-◌, ◌∙◌}
use Rattle.adl_lexer.proofs.Skips.{first_found}
use Rattle.adl_lexer.proofs.gap.behind.Goals as goal

pub returns-in-Some : goal.returns-in-Some
returns-in-Some c =
    let bytes = c.args.bytes.now in
    let rest = drop (c.in-Some.at + 1) bytes in
    ap Some (take_all (length bytes - (c.in-Some.at + 1)) rest (omega (arith, length-drop (c.in-Some.at + 1) bytes)))
    ∙ sym (first_found c.args.wanted bytes c.in-Some.at c.in-Some.ensures)
