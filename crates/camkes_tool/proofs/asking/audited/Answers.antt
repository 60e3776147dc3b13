use Rattle.camkes_tool.proofs.Common.{IsAudited}
use Rattle.camkes_tool.proofs.Telling.{fits_told}
use Rattle.camkes_tool.proofs.asking.audited.Goals as goal

pub returns-clause-fits : goal.returns-clause-fits
returns-clause-fits g c m told =
    rw c.told.ensures
    (fits_told (IsAudited m (g.F.Files.faults c.args.files.now) (g.F.Files.faults c.audit_texts.new.files) c.args.cdl.now
    c.args.policy.now) c.audit_texts.result (c.audit_texts.ensures.audited m told))
