use Rattle.cap_audit.proofs.Acting.{boot_gains}
use Rattle.cap_audit.proofs.report.show_boot.Goals as goal

pub returns : goal.returns
returns c = boot_gains c.args.making.now c.note_table.new.self c.requires.so_far c.in_ok-table.table c.in_ok-table.ensures
    c.in_ok-note_table.ensures
