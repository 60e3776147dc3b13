use Rattle.view_tool.proofs.Common.{page_text}
use Rattle.view_tool.proofs.Noting.{page_drawn, page_shown}
use Rattle.view_tool.proofs.build.show_page.Goals as goal

pub returns-in-Ok : goal.returns-in-Ok
returns-in-Ok c =
    let drawn =
    page_drawn page_text c.args.build.now c.page_text.result c.args.root.now c.as_bytes.result.now c.args.build.now.map
    c.as_slice.result.now c.in-Ok.notes c.as_slice-in-Ok.result.now c.as_bytes.ensures.value c.as_slice.ensures
    c.as_slice-in-Ok.ensures c.page_text.ensures in
    page_shown c.args.root.now c.args.build.now c.in-Ok.notes c.page_text.result c.shown.result c.in-Ok.ensures drawn
    c.shown.ensures.ok c.shown.ensures.none
