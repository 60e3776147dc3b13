use Rattle.adl_names.proofs.Common.{Name, as_export, drop, filter_map, is_among, is_target, ◌||◌, ◌≡◌}
use Rattle.adl_names.proofs.tables.targets.Given as goal

abbrev pub invariant-loop-line : goal.invariant-loop-line
invariant-loop-line l = (n : Name) → (is_among l.targets n || is_target (filter_map as_export (drop l.line-index l.line-items)) n)
    ≡ is_target (filter_map as_export l.line-items) n
