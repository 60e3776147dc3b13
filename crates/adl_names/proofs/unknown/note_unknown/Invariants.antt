use Rattle.adl_names.proofs.Common.{drop, flat_map, is_procedure, items_of, known_in, map, noted, unknown_in_item, ◌≡◌}
use Rattle.adl_names.specs.Bodies.{item_of}
use Rattle.adl_names.proofs.unknown.note_unknown.Given as goal

abbrev pub invariant-loop-body : goal.invariant-loop-body
invariant-loop-body l =
    noted l.first (flat_map (unknown_in_item (known_in l.tables) (is_procedure l.tables))
    (map item_of (drop l.body-index l.body-items)))
    ≡ noted l.fn.first (flat_map (unknown_in_item (known_in l.tables) (is_procedure l.tables))
    (map (λ x. x.1) (items_of l.tables)))
