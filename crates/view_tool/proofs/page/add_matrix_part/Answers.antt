use Rattle.view_tool.proofs.PageCommon.{codes, matrix_of, matrix_words, ◌++◌}
use Rattle.view_tool.proofs.Adding.{and_last, and_then}
use Rattle.view_tool.proofs.page.add_matrix_part.Goals as goal

pub returns : goal.returns
returns c =
    let text = c.args.text.now in
    let matrix = matrix_of c.args.policy.now c.args.notes.now in
    let words = and_then text c.add.new.text c.add_matrix.new.text matrix_words matrix c.in_ok-add.ensures
    c.in_ok-add_matrix.ensures in
    and_last c.extend.result text c.add_matrix.new.text c.extend.new.self (matrix_words ++ matrix) (codes "</div>\n") words
    c.extend.ensures.ok
