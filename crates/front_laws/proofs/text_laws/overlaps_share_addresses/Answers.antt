use Rattle.front_laws.proofs.Overlaps.{in_none_overlaps, none_from, overlaps}
use Rattle.front_laws.proofs.text_laws.overlaps_share_addresses.Goals as goal

pub returns-clause-first : goal.returns-clause-first
returns-clause-first c = λ rs i j. ((overlaps rs i j).0, (overlaps rs i j).1)

pub returns-clause-none : goal.returns-clause-none
returns-clause-none c = λ rs. (none_from rs, in_none_overlaps rs)
