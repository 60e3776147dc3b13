use Rattle.adl_ast.proofs.Common.{length, ◌+◌, ◌≡◌}
use Rattle.std.specs.List.{count_by}
use Rattle.adl_ast.specs.Counts.{is_item}
use Rattle.adl_ast.proofs.file.number.Given as goal

abbrev pub invariant-loop-rest : goal.invariant-loop-rest
invariant-loop-rest l = l.count + count_by (is_item l.kind) l.rest ≡ count_by (is_item l.kind) l.items

abbrev pub decreases-loop-rest : goal.decreases-loop-rest
decreases-loop-rest l = length l.rest
