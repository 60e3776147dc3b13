use Rattle.source_images.proofs.Common.{arith, err_is, subst, sym, tables_told}
use Rattle.source_images.proofs.TableReads.{AreRead, learns_more, none_read, tables_failed, tables_more}
use Rattle.source_images.proofs.reading.read_tables.Goals as goal
use Rattle.cam_io.proofs.Kept.{keeps_twice}

pub loop-number-init : goal.loop-number-init
loop-number-init g c = record {
  kept = record { told_still = λ m told. told; later = λ name. omega arith };
  learned = λ m n now old alike. old;
  read = λ m told. subst (AreRead m c.args.file (tables_told c.args.tables.now) 0) (sym c.new-readings.ensures)
      (none_read m c.args.file (tables_told c.args.tables.now));
}

pub returns-in_err-read_table-clause-read : goal.returns-in_err-read_table-clause-read
returns-in_err-read_table-clause-read g c m told =
    tables_failed m c.args.file c.args.tables.now c.loop-number.number c.index-tables-number.result c.in_err-read_table.field-0.0
    c.from_residual.result
    c.loop-number-test.true c.index-tables-number.is (c.in_err-read_table.ensures.read m told)
    (err_is c.from_residual.result c.in_err-read_table.field-0.0 c.from_residual.ensures.1)

pub loop-number-preserved : goal.loop-number-preserved
loop-number-preserved g c = record {
  kept = keeps_twice c.args.files.now c.loop-number.files c.read_table.new.files c.loop-number.invariant.kept
      c.in_ok-read_table.ensures.kept;
  learned = learns_more g.F.Files.told c.args.tables.now c.loop-number.number c.index-tables-number.result c.args.files.now
      c.loop-number.files c.read_table.new.files
      c.loop-number-test.true c.index-tables-number.is c.loop-number.invariant.learned c.in_ok-read_table.ensures.kept.told_still
      c.in_ok-read_table.ensures.learned;
  read = λ m told. tables_more m c.args.file c.args.tables.now c.loop-number.number c.loop-number.readings c.push.new.self
      c.index-tables-number.result
      c.in_ok-read_table.field-0 (c.loop-number.invariant.read m (c.in_ok-read_table.ensures.kept.told_still m told))
      c.loop-number-test.true c.index-tables-number.is (c.in_ok-read_table.ensures.read m told) c.in_ok-push.ensures.ok;
}

pub returns-in_err-read_table-clause-learned : goal.returns-in_err-read_table-clause-learned
returns-in_err-read_table-clause-learned g c =
    learns_more g.F.Files.told c.args.tables.now c.loop-number.number c.index-tables-number.result c.args.files.now
    c.loop-number.files c.read_table.new.files
    c.loop-number-test.true c.index-tables-number.is c.loop-number.invariant.learned c.in_err-read_table.ensures.kept.told_still
    c.in_err-read_table.ensures.learned

pub returns-in_err-push-clause-learned : goal.returns-in_err-push-clause-learned
returns-in_err-push-clause-learned g c =
    learns_more g.F.Files.told c.args.tables.now c.loop-number.number c.index-tables-number.result c.args.files.now
    c.loop-number.files c.read_table.new.files
    c.loop-number-test.true c.index-tables-number.is c.loop-number.invariant.learned c.in_ok-read_table.ensures.kept.told_still
    c.in_ok-read_table.ensures.learned
