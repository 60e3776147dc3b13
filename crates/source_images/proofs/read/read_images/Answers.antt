use Rattle.source_images.proofs.Common.{AlikeInTables, AreTablesRead, Err, IsAnswer, LearnsOnly, Ok, ap, arith, err_is, length, subst, sym, tables_told, ◌∙◌}
use Rattle.source_images.proofs.Answering.{answered, err_answered, files_named, tables_are}
use Rattle.source_images.proofs.TableReads.{same_length}
use Rattle.source_images.proofs.read.read_images.Goals as goal

pub read_tables-requires : goal.read_tables-requires
read_tables-requires g c =
    omega (
      arith,
      same_length c.in_ok-tables.tables.items c.as_slice.result.now c.folder_of.result.now c.in_ok-tables.ensures,
      ap length c.as_slice.ensures.value,
      ap length c.as_slice-2.ensures.value,
      c.in_ok-types.ensures.few,
      c.len.ensures,
      c.requires,
    )

pub returns-in_err-readings-clause-read : goal.returns-in_err-readings-clause-read
returns-in_err-readings-clause-read g c m told =
    err_answered m c.args.root.now c.args.source.now c.args.flat.now (tables_told c.as_slice-2.result.now)
    c.in_err-readings.field-0.0 c.from_residual-in_err-readings.result
    (tables_are c.args.root.now c.args.source.now c.args.flat.now c.as_slice-2.result.now c.in_ok-tables.tables.items
    c.in_ok-types.types.names.items c.as_slice.result.now c.folder_of.result.now c.as_slice-2.ensures.value
    c.in_ok-tables.ensures c.folder_of.ensures c.as_slice.ensures.value c.in_ok-types.ensures.names)
    (subst (λ n. AreTablesRead m n (tables_told c.as_slice-2.result.now) (Err c.in_err-readings.field-0.0)) c.len.ensures
    (c.in_err-readings.ensures.read m told))
    (err_is c.from_residual-in_err-readings.result c.in_err-readings.field-0.0 c.from_residual-in_err-readings.ensures.1)

pub returns-clause-read : goal.returns-clause-read
returns-clause-read g c m told =
    answered m c.args.root.now c.args.source.now c.args.flat.now (tables_told c.as_slice-2.result.now) c.in_ok-readings.readings
    c.answer.result
    (tables_are c.args.root.now c.args.source.now c.args.flat.now c.as_slice-2.result.now c.in_ok-tables.tables.items
    c.in_ok-types.types.names.items c.as_slice.result.now c.folder_of.result.now c.as_slice-2.ensures.value
    c.in_ok-tables.ensures c.folder_of.ensures c.as_slice.ensures.value c.in_ok-types.ensures.names)
    (subst (λ n. AreTablesRead m n (tables_told c.as_slice-2.result.now) (Ok c.in_ok-readings.readings)) c.len.ensures
    (c.in_ok-readings.ensures.read m told))
    (subst (λ z. IsAnswer c.args.source.now c.args.flat.now (tables_told z) c.in_ok-readings.readings c.answer.result)
    (c.as_slice-3.ensures.value ∙ sym c.as_slice-2.ensures.value) c.answer.ensures)

pub returns-in_err-readings-clause-learned : goal.returns-in_err-readings-clause-learned
returns-in_err-readings-clause-learned g c =
    subst (λ names. LearnsOnly g.F.Files.told (AlikeInTables names) c.args.files.now c.read_tables.new.files)
    (files_named c.args.root.now c.args.source.now c.args.flat.now c.as_slice-2.result.now
    (tables_are c.args.root.now c.args.source.now c.args.flat.now c.as_slice-2.result.now c.in_ok-tables.tables.items
    c.in_ok-types.types.names.items c.as_slice.result.now c.folder_of.result.now c.as_slice-2.ensures.value
    c.in_ok-tables.ensures c.folder_of.ensures c.as_slice.ensures.value c.in_ok-types.ensures.names))
    c.in_err-readings.ensures.learned

pub returns-clause-learned : goal.returns-clause-learned
returns-clause-learned g c =
    subst (λ names. LearnsOnly g.F.Files.told (AlikeInTables names) c.args.files.now c.read_tables.new.files)
    (files_named c.args.root.now c.args.source.now c.args.flat.now c.as_slice-2.result.now
    (tables_are c.args.root.now c.args.source.now c.args.flat.now c.as_slice-2.result.now c.in_ok-tables.tables.items
    c.in_ok-types.types.names.items c.as_slice.result.now c.folder_of.result.now c.as_slice-2.ensures.value
    c.in_ok-tables.ensures c.folder_of.ensures c.as_slice.ensures.value c.in_ok-types.ensures.names))
    c.in_ok-readings.ensures.learned
