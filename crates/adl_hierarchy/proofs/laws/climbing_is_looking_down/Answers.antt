use Rattle.adl_hierarchy.proofs.Common.{hierarchy_of, length}
use Rattle.adl_hierarchy.proofs.Climbing.{found_climbs, climbs_reached}
use Rattle.adl_hierarchy.proofs.PartsAt.{at_part}
use Rattle.adl_hierarchy.proofs.laws.climbing_is_looking_down.Goals as goal

pub returns-clause-found : goal.returns-clause-found
returns-clause-found c = λ s k port r e.
    let h = hierarchy_of s in
    let f = found_climbs h (length h.bodies) k port r e in
    (f.rest, f.path, f.stands.0, (r.part.kind, at_part h k r.path r.part f.stands.0, f.stands.1), f.climbs)

pub returns-clause-every : goal.returns-clause-every
returns-clause-every c = climbs_reached
