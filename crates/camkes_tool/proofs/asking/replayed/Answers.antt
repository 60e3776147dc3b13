use Rattle.camkes_tool.proofs.Common.{IsRun}
use Rattle.camkes_tool.proofs.Telling.{fits_told}
use Rattle.camkes_tool.proofs.asking.replayed.Goals as goal

pub returns-clause-fits : goal.returns-clause-fits
returns-clause-fits g c m told =
    rw c.told.ensures
    (fits_told (IsRun m (g.F.Files.faults c.args.files.now) (g.F.Files.faults c.replay_texts.new.files) c.args.cdl.now
    c.args.policy.now c.args.steps.now) c.replay_texts.result (c.replay_texts.ensures.ran m told))
