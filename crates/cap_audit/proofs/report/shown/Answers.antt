use Rattle.cap_audit.proofs.Common.{◌∙◌}
use Rattle.cap_audit.proofs.Assembling.{reported}
use Rattle.cap_audit.proofs.report.shown.Goals as goal

pub returns : goal.returns
returns c =
    reported c.args.making c.show.new.making c.in_ok-edges.edges c.from_vec.result c.requires.none c.in_ok-show.ensures
    (λ e. c.in_ok-edges.ensures.edges e) (c.from_vec.ensures ∙ c.in_ok-edges.ensures.steps)
