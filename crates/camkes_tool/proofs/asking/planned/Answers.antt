use Rattle.camkes_tool.proofs.Common.{IsPlanned}
use Rattle.camkes_tool.proofs.Telling.{fits_told}
use Rattle.camkes_tool.proofs.asking.planned.Goals as goal

pub returns-clause-fits : goal.returns-clause-fits
returns-clause-fits g c m told =
    rw c.told.ensures
    (fits_told (IsPlanned m (g.F.Files.faults c.args.files.now) (g.F.Files.faults c.plan_texts.new.files) c.args.cdl.now
    c.args.untypeds.now) c.plan_texts.result (c.plan_texts.ensures.planned m told))
