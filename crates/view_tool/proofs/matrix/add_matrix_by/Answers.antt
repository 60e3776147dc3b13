use Rattle.view_tool.proofs.PageCommon.{List, codes, flat_map, label_row, matrix_head, tagged, ℕ, ◌++◌}
use Rattle.view_tool.proofs.Adding.{and_last, and_then}
use Rattle.view_tool.proofs.matrix.add_matrix_by.Goals as goal

pub returns : goal.returns
returns c =
    let text = c.args.text.now in
    let heads = flat_map (λ (x : ℕ × List ℕ). tagged (codes "th") x.1) c.args.columns.now in
    let rows = flat_map (label_row c.args.marks.now c.args.columns.now) c.args.labels.now in
    let first = and_then text c.extend.new.self c.add_heads.new.text matrix_head heads c.in_ok-extend.ensures.ok
    c.in_ok-add_heads.ensures in
    let closed = and_then text c.add_heads.new.text c.extend-2.new.self (matrix_head ++ heads) (codes "</tr>\n") first
    c.in_ok-extend-2.ensures.ok in
    let all =
    and_then text c.extend-2.new.self c.add_label_rows.new.text ((matrix_head ++ heads) ++ codes "</tr>\n") rows closed
    c.in_ok-add_label_rows.ensures in
    and_last c.extend-3.result text c.add_label_rows.new.text c.extend-3.new.self
    (((matrix_head ++ heads) ++ codes "</tr>\n") ++ rows)
    (codes "</table>\n") all c.extend-3.ensures.ok
