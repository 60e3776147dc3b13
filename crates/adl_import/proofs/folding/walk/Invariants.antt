use Rattle.adl_import.proofs.Common.{[], drop, inner_first, is_slash, parts_of, slice_split, with_parts, ◌≡◌}
use Rattle.adl_import.proofs.folding.walk.Given as goal

abbrev pub invariant-loop-part : goal.invariant-loop-part
invariant-loop-part l =
    with_parts l.absolute (inner_first l.kept.items) (parts_of (drop l.part-index l.part-items)) ≡ with_parts l.absolute []
    (slice_split is_slash l.path)
