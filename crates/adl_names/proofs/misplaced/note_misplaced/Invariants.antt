use Rattle.adl_names.proofs.Common.{drop, flat_map, items_of, map, misplaced_in_item, misplaced_member, noted, ◌++◌, ◌+◌, ◌≡◌}
use Rattle.adl_names.specs.Bodies.{item_of}
use Rattle.adl_names.proofs.misplaced.note_misplaced.Given as goal

abbrev pub invariant-loop-body : goal.invariant-loop-body
invariant-loop-body l = noted l.first (flat_map misplaced_in_item (map item_of (drop l.body-index l.body-items))) ≡ noted
    l.fn.first (flat_map misplaced_in_item (map (λ x. x.1) (items_of l.tables)))

abbrev pub invariant-loop-member : goal.invariant-loop-member
invariant-loop-member l =
    noted l.first (flat_map (misplaced_member l.composite l.device) (drop l.member-index l.member-items)
    ++ flat_map misplaced_in_item (map item_of (drop (l.body-index + 1) l.body-items)))
    ≡ noted l.fn.first (flat_map misplaced_in_item (map (λ x. x.1) (items_of l.tables)))
