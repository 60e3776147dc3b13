use Rattle.capdl_read.proofs.Whole.{fault_is}
use Rattle.capdl_read.proofs.parse.syntax_fault.Goals as goal

pub returns : goal.returns
returns c =
    fault_is c.args.bytes.now c.args.tokens.now c.args.stop.why c.args.stop.left c.saturating_sub-at.result
    c.place_at-first.result.0 c.place_at-first.result.1 c.code_of.result c.empty.result
    c.code_of.ensures c.saturating_sub-at.ensures c.place_at-first.ensures.first c.place_at-first.ensures.end c.empty.ensures
