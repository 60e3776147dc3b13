use Rattle.adl_names.proofs.Common.{Name, drop, duplicates_in_composition, flat_map, held_as, held_by, holding_told, naming, noted, ◌≡◌}
use Rattle.adl_names.specs.Tables.{noting}
use Rattle.adl_names.proofs.tables.Holding.of.Given as goal

abbrev pub invariant-loop-line : goal.invariant-loop-line
invariant-loop-line l = record {
  noted : noting l.held l.first (flat_map held_by (drop l.line-index l.line-items)) ≡ noted l.fn.first
      (duplicates_in_composition l.composition);
  held : (n : Name) → naming (holding_told l.held) (flat_map held_by (drop l.line-index l.line-items)) n ≡ held_as
      l.composition n;
}
