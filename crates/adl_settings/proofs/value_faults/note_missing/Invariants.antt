use Rattle.adl_settings.proofs.Common.{drop, flat_map, noted, ◌≡◌}
use Rattle.adl_settings.specs.Missing.{missing_at, missing_in}
use Rattle.adl_settings.proofs.value_faults.note_missing.Given as goal

abbrev pub invariant-loop-end : goal.invariant-loop-end
invariant-loop-end l = noted l.first (flat_map missing_at (drop l.end-index l.ends)) ≡ noted l.fn.first (missing_in l.ends)
