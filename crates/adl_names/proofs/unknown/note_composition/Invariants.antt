use Rattle.adl_names.proofs.Common.{drop, flat_map, held_as, known_in, noted, owner_of, unknown_in_composition, unknown_in_dotted, unknown_in_line, unknown_type, ◌++◌, ◌+◌, ◌≡◌}
use Rattle.adl_names.proofs.unknown.note_composition.Given as goal

abbrev pub invariant-loop-line : goal.invariant-loop-line
invariant-loop-line l =
    noted l.first (flat_map (unknown_in_line (known_in l.tables) (owner_of l.owner) (held_as l.holding))
    (drop l.line-index l.line-items))
    ≡ noted l.fn.first (unknown_in_composition (known_in l.tables) (owner_of l.owner) l.holding)

abbrev pub invariant-loop-it : goal.invariant-loop-it
invariant-loop-it l =
    noted l.first (flat_map (unknown_type (known_in l.tables)) (drop l.it-index l.it-items)
    ++ flat_map (unknown_in_line (known_in l.tables) (owner_of l.owner) (held_as l.holding))
    (drop (l.line-index + 1) l.line-items))
    ≡ noted l.fn.first (unknown_in_composition (known_in l.tables) (owner_of l.owner) l.holding)

abbrev pub invariant-loop-end : goal.invariant-loop-end
invariant-loop-end l =
    noted l.first (flat_map (λ e. unknown_in_dotted (known_in l.tables) (held_as l.holding) e.words)
    (drop l.end-index l.end-items)
    ++ flat_map (unknown_in_line (known_in l.tables) (owner_of l.owner) (held_as l.holding))
    (drop (l.line-index + 1) l.line-items))
    ≡ noted l.fn.first (unknown_in_composition (known_in l.tables) (owner_of l.owner) l.holding)
