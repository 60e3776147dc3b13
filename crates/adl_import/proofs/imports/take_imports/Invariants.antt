use Rattle.adl_import.proofs.Common.{drop, imports_in, take_imports, ◌≡◌}
use Rattle.adl_import.proofs.imports.take_imports.Given as goal

abbrev pub invariant-loop-ended : goal.invariant-loop-ended
invariant-loop-ended l = take_imports l.root l.own l.known.entries (imports_in (drop l.ended-index l.items)) ≡ take_imports l.root
    l.own l.fn.known.entries (imports_in l.items)
