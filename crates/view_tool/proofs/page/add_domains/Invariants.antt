use Rattle.view_tool.proofs.PageCommon.{domain_part, gather, named, take, ◌++◌, ◌≡◌}
use Rattle.view_tool.proofs.page.add_domains.Given as goal

abbrev pub invariant-loop-number : goal.invariant-loop-number
invariant-loop-number l = l.text ≡ l.fn.text ++ gather (domain_part (named l.names) l.lines) (take l.number l.domains)
