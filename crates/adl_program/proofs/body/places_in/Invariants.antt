use Rattle.adl_program.proofs.Common.{Name, drop, found, is_interface, place_by, unwrap_or, ◌+◌, ◌≡◌}
use Rattle.adl_program.proofs.body.places_in.Given as goal

abbrev pub invariant-loop-place : goal.invariant-loop-place
invariant-loop-place l =
    (n : Name) → unwrap_or (found l.places n) (l.place + place_by (is_interface n) (drop l.place l.members))
    ≡ place_by (is_interface n) l.members
