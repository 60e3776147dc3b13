use Rattle.camkes_tool.proofs.Common.{IsChecked}
use Rattle.camkes_tool.proofs.Telling.{fits_told}
use Rattle.camkes_tool.proofs.asking.checked.Goals as goal

pub returns-clause-fits : goal.returns-clause-fits
returns-clause-fits g c m told =
    rw c.told.ensures
    (fits_told (IsChecked m (g.F.Files.faults c.args.files.now) (g.F.Files.faults c.check_texts.new.files) c.args.cdl.now
    c.args.policy.now c.args.cert.now) c.check_texts.result (c.check_texts.ensures.checked m told))
