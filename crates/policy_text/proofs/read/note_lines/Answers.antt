use Rattle.policy_text.proofs.Common.{AreNoted, ap, body, count_by, form_fault, has_label, is_edge, line_of, lines_left, passed_on, told, told_lines, ◌++◌, ◌∙◌}
use Rattle.policy_text.proofs.Judging.{edges_step, form_some, forms_step, forms_fail, noted_edges, noted_numbers, numbers_step, told_on}
use Rattle.policy_text.proofs.read.note_lines.Goals as goal

pub loop-line-preserved : goal.loop-line-preserved
loop-line-preserved c =
    let entry = c.in_ok-note_line.ensures.0 in
    let says = c.in_ok-note_line.ensures.1 in
    let notes = c.in_ok-note_line.ensures.2 in
    let line = line_of c.in-Some.line in
    let left = lines_left c.loop-line.line-iterator in
    let more = lines_left c.next.new.self in
    record {
      forms = forms_step c.args.kind line left more (form_fault c.args.kind (body c.args.bytes.now)) c.in-Some.ensures.steps
          c.loop-line.invariant.forms (form_some c.args.kind line entry says);
      numbers = λ n.
          numbers_step c.args.kind line left more c.loop-line.noted.numbers c.note_line.new.noted.numbers n
          (has_label (told c.args.kind (body c.args.bytes.now)) n) c.in-Some.ensures.steps
          (c.loop-line.invariant.numbers n) (noted_numbers c.args.kind line entry c.loop-line.noted c.note_line.new.noted
          n says notes);
      edges =
          edges_step c.args.kind line left more c.loop-line.noted.edges c.note_line.new.noted.edges
          (count_by (λ t. is_edge t.1) (told c.args.kind (body c.args.bytes.now))) c.in-Some.ensures.steps
          c.loop-line.invariant.edges (noted_edges c.args.kind line entry c.loop-line.noted c.note_line.new.noted says notes);
      near = notes.near c.loop-line.invariant.near;
      lines =
          ap (λ ts. ts ++ told c.args.kind more) notes.lines
          ∙ told_on c.args.kind (told_lines c.loop-line.noted.lines.items) line entry left more
          (told c.args.kind (body c.args.bytes.now)) c.in-Some.ensures.steps c.loop-line.invariant.lines says;
    }

pub returns-in_err-note_line : goal.returns-in_err-note_line
returns-in_err-note_line c =
    passed_on (AreNoted c.args.kind (body c.args.bytes.now)) c.from_residual-in_err-note_line.result
    c.in_err-note_line.field-0.0 c.from_residual-in_err-note_line.ensures.1
    (forms_fail c.args.kind (line_of c.in-Some.line) (lines_left c.loop-line.line-iterator) (lines_left c.next.new.self)
    (form_fault c.args.kind (body c.args.bytes.now)) c.in_err-note_line.field-0.0
    c.in-Some.ensures.steps c.loop-line.invariant.forms c.in_err-note_line.ensures)
