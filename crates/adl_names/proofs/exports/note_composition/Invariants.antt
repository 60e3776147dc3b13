use Rattle.adl_names.proofs.Common.{as_connection, drop, filter_map, flat_map, held_as, known_in, misfits_in_composition, noted, owner_of, unled_end, unled_ends, ◌++◌, ◌+◌, ◌≡◌}
use Rattle.adl_names.proofs.exports.note_composition.Given as goal

abbrev pub invariant-loop-line : goal.invariant-loop-line
invariant-loop-line l =
    noted l.first (flat_map (unled_ends (known_in l.tables) (held_as l.holding))
    (filter_map as_connection (drop l.line-index l.line-items)))
    ≡ noted l.fn.first (misfits_in_composition (known_in l.tables) (owner_of l.owner) l.holding)

abbrev pub invariant-loop-end : goal.invariant-loop-end
invariant-loop-end l =
    noted l.first (flat_map (unled_end (known_in l.tables) (held_as l.holding)) (drop l.end-index l.end-items)
    ++ flat_map (unled_ends (known_in l.tables) (held_as l.holding))
    (filter_map as_connection (drop (l.line-index + 1) l.line-items)))
    ≡ noted l.fn.first (misfits_in_composition (known_in l.tables) (owner_of l.owner) l.holding)
