use Rattle.source_images.proofs.Common.{Table, ap, arith, length, string_bytes, sym, ◌-◌, ◌∙◌}
use Rattle.source_images.proofs.Answering.{name_at_table, name_past, ok_as}
use Rattle.source_images.proofs.read.file_name.Goals as goal

pub returns-then-number-tables : goal.returns-then-number-tables
returns-then-number-tables c =
    ok_as c.new.result c.as_bytes.result.now _ (c.as_bytes.ensures.value ∙ ap (λ (t : Table). string_bytes t.file)
    (sym c.index-tables-number.is)
    ∙ name_at_table c.args.source.now c.args.tables.now c.args.file (c.args.file - length c.as_slice-files.result.now)
    c.index-tables-number.result (omega (arith, ap length c.as_slice-files.ensures))
    (ap (λ z. c.args.file - length z) c.as_slice-files.ensures) c.if-number-tables.true c.index-tables-number.is) c.new.ensures

pub returns : goal.returns
returns c =
    c.empty.ensures
    ∙ name_past c.args.source.now c.args.tables.now c.args.file (c.args.file - length c.as_slice-files.result.now)
    (omega (arith, ap length c.as_slice-files.ensures)) (ap (λ z. c.args.file - length z) c.as_slice-files.ensures)
    c.if-number-tables.false
