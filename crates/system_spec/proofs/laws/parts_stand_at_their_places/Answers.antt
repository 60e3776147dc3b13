use Rattle.system_spec.proofs.Standing.{place_is, stands}
use Rattle.system_spec.proofs.laws.parts_stand_at_their_places.Goals as goal

pub returns-clause-stands : goal.returns-clause-stands
returns-clause-stands c = stands

pub returns-clause-place : goal.returns-clause-place
returns-clause-place c = place_is
