use Rattle.camkes_tool.proofs.Common.{IsTabled}
use Rattle.camkes_tool.proofs.Telling.{fits_told}
use Rattle.camkes_tool.proofs.asking.tabled.Goals as goal

pub returns-clause-fits : goal.returns-clause-fits
returns-clause-fits g c m told =
    rw c.told.ensures
    (fits_told (IsTabled m (g.F.Files.faults c.args.files.now) (g.F.Files.faults c.table_of_elf.new.files) c.args.elf.now)
    c.table_of_elf.result (c.table_of_elf.ensures.tabled m told))
