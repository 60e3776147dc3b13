use Rattle.adl_names.proofs.Common.{Some, drop, flat_map, items_of, known_in, known_of, map, misfits_in_composition, misfits_in_item, noted, ◌++◌, ◌+◌, ◌≡◌}
use Rattle.adl_names.specs.Bodies.{item_of}
use Rattle.adl_names.proofs.exports.note_misfits.Given as goal

abbrev pub invariant-loop-body : goal.invariant-loop-body
invariant-loop-body l =
    noted l.first (flat_map (misfits_in_item (known_in l.tables)) (map item_of (drop l.body-index l.body-items))) ≡ noted
    l.fn.first (flat_map (misfits_in_item (known_in l.tables)) (map (λ x. x.1) (items_of l.tables)))

abbrev pub invariant-loop-holding : goal.invariant-loop-holding
invariant-loop-holding l =
    noted l.first (flat_map (misfits_in_composition (known_in l.tables) (Some (known_of l.table)))
    (drop l.holding-index l.holding-items)
    ++ flat_map (misfits_in_item (known_in l.tables)) (map item_of (drop (l.body-index + 1) l.body-items)))
    ≡ noted l.fn.first (flat_map (misfits_in_item (known_in l.tables)) (map (λ x. x.1) (items_of l.tables)))
