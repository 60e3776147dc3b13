use Rattle.adl_settings.proofs.Common.{bad_at_end, bad_in_connection, drop, flat_map, noted, ◌≡◌}
use Rattle.adl_settings.proofs.value_faults.note_bad_ends.Given as goal

abbrev pub invariant-loop-end : goal.invariant-loop-end
invariant-loop-end l = noted l.first (flat_map bad_at_end (drop l.end-index l.ends)) ≡ noted l.fn.first (bad_in_connection l.ends)
