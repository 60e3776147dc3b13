use Rattle.adl_import.proofs.Common.{folder_of, length, ◌≡◌}
use Rattle.adl_import.proofs.imports.folder_of.Given as goal

abbrev pub invariant-loop-last : goal.invariant-loop-last
invariant-loop-last l = folder_of l.folder ≡ folder_of l.name

abbrev pub decreases-loop-last : goal.decreases-loop-last
decreases-loop-last l = length l.folder
