use Rattle.camkes_tool.proofs.Common.{IsCertified}
use Rattle.camkes_tool.proofs.Telling.{fits_told}
use Rattle.camkes_tool.proofs.asking.certified.Goals as goal

pub returns-clause-fits : goal.returns-clause-fits
returns-clause-fits g c m told =
    rw c.told.ensures
    (fits_told (IsCertified m (g.F.Files.faults c.args.files.now) (g.F.Files.faults c.certify_texts.new.files) c.args.cdl.now
    c.args.policy.now) c.certify_texts.result (c.certify_texts.ensures.certified m told))
