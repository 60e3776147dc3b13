use Rattle.adl_names.proofs.Common.{drop, duplicates_in_procedure, flat_map, noted, ◌≡◌}
use Rattle.adl_names.specs.Tables.{repeated_in}
use Rattle.adl_names.proofs.repeats.note_procedure.Given as goal

abbrev pub invariant-loop-member : goal.invariant-loop-member
invariant-loop-member l =
    noted l.first (flat_map repeated_in (drop l.member-index l.members)) ≡ noted l.fn.first (duplicates_in_procedure l.procedure)
