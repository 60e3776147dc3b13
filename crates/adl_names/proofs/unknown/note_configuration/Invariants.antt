use Rattle.adl_names.proofs.Common.{drop, flat_map, known_in, noted, owner_of, scope_told, unknown_in_one_setting, ◌≡◌}
use Rattle.adl_names.proofs.unknown.note_configuration.Given as goal

abbrev pub invariant-loop-setting : goal.invariant-loop-setting
invariant-loop-setting l =
    noted l.first (flat_map (unknown_in_one_setting (known_in l.tables) (owner_of l.owner) (scope_told l.scope))
    (drop l.setting-index l.setting-items))
    ≡ noted l.fn.first (flat_map (unknown_in_one_setting (known_in l.tables) (owner_of l.owner) (scope_told l.scope))
    l.setting-items)
