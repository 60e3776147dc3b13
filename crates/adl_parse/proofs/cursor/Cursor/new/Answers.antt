use Rattle.adl_parse.proofs.Common.{ap, drop, see, sym, ◌∙◌}
use Rattle.adl_parse.proofs.Parts.{see_drop}
use Rattle.adl_parse.proofs.cursor.Cursor.new.Goals as goal

pub returns : goal.returns
returns c = ap (see c.args.bytes.now) (c.split_at.ensures.back ∙ ap (drop c.args.at) c.as_slice.ensures)
    ∙ sym (see_drop c.args.bytes.now c.args.at c.args.tokens.now.list)
