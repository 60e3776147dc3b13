use Rattle.adl_import.proofs.Common.{◌∙◌}
use Rattle.adl_import.proofs.Parts.{is_utf8-tested}
use Rattle.adl_import.proofs.folding.is_utf8.Goals as goal

pub returns : goal.returns
returns c = c.is_ok.ensures.value ∙ is_utf8-tested c.from_utf8.result _ c.args.path.now c.from_utf8.ensures.cases
