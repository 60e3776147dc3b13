use Rattle.system_spec.proofs.Common.{read_in, rules, serves_from_places}
use Rattle.std.proofs.lemmas.Iterator.{YieldsList-from_slice}
use Rattle.system_spec.proofs.levels.mappings.Goals as goal

pub collect-requires-clause-can : goal.collect-requires-clause-can
collect-requires-clause-can c = (
  tt,
  serves_from_places (YieldsList-from_slice c.args.pages.now cc) (λ x q r. search rules)
      (λ x k below at. let here = c.requires _ (read_in c.args.pages.now k x.now below) in search rules),
)
