use Rattle.view_tool.proofs.PageCommon.{domain_part, gather_turn, named, refl}
use Rattle.view_tool.proofs.page.add_domains.Goals as goal

pub loop-number-preserved : goal.loop-number-preserved
loop-number-preserved c =
    gather_turn (domain_part (named c.args.names.now) c.args.lines.now) c.as_slice-domains.result.now _ c.loop-number.number _
    c.args.text.now _ _ refl
    c.loop-number-test.true c.index-domains-number.is c.loop-number.invariant c.in_ok-add_domain.ensures
