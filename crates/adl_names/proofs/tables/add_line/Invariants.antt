use Rattle.adl_names.proofs.Common.{Held, Id, List, Name, as_held, drop, held_by, holding_told, map, naming, ◌++◌, ◌≡◌}
use Rattle.adl_names.specs.Tables.{noting}
use Rattle.adl_names.proofs.tables.add_line.Given as goal

abbrev pub invariant-loop-instance : goal.invariant-loop-instance
invariant-loop-instance l = record {
  noted : (more : List (Id × Held)) → noting l.table l.first (map as_held (drop l.instance-index l.instance-items)
      ++ more) ≡ noting l.fn.table l.fn.first (held_by l.line ++ more);
  found : (n : Name) (more : List (Id × Held))
      → naming (holding_told l.table) (map as_held (drop l.instance-index l.instance-items) ++ more) n ≡ naming
      (holding_told l.fn.table) (held_by l.line ++ more) n;
}
