use Rattle.view_tool.proofs.PageCommon.{authority_text, codes, escaped, ◌++◌}
use Rattle.view_tool.proofs.Adding.{and_last, and_then}
use Rattle.view_tool.proofs.matrix.add_mark.Goals as goal

pub returns : goal.returns
returns c =
    let text = c.args.text.now in
    let m = c.args.mark.now in
    let note =
    and_then text c.extend.new.self c.add_escaped.new.text (codes "<abbr title=\"") (escaped m.note) c.in_ok-extend.ensures.ok
    (rw c.as_bytes.ensures at c.in_ok-add_escaped.ensures) in
    and_last c.add_authority.result text c.add_escaped.new.text c.add_authority.new.text (codes "<abbr title=\""
    ++ escaped m.note)
    (authority_text m.edge.authority) note c.add_authority.ensures
