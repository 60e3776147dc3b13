use Rattle.view_tool.proofs.PageCommon.{codes, page_start, style, tagged, ◌++◌}
use Rattle.view_tool.proofs.Adding.{and_last, and_then}
use Rattle.view_tool.proofs.page.add_head.Goals as goal

pub returns : goal.returns
returns c =
    let text = c.args.text.now in
    let title = tagged (codes "title") c.args.root.now in
    let titled = and_then text c.extend.new.self c.add_tagged.new.text page_start title c.in_ok-extend.ensures.ok
    c.in_ok-add_tagged.ensures in
    let styled = and_then text c.add_tagged.new.text c.add_style.new.text (page_start ++ title) style titled
    c.in_ok-add_style.ensures in
    and_last c.add_tagged-2.result text c.add_style.new.text c.add_tagged-2.new.text ((page_start ++ title) ++ style)
    (tagged (codes "h1") c.args.root.now) styled c.add_tagged-2.ensures
