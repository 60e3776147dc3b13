use Rattle.adl_program.proofs.Common.{drop, is_interface, place_by, ◌+◌, ◌≡◌}
use Rattle.adl_program.proofs.body.place_in.Given as goal

abbrev pub invariant-loop-place : goal.invariant-loop-place
invariant-loop-place l =
    l.place + place_by (is_interface l.name) (drop l.place l.members) ≡ place_by (is_interface l.name) l.members
