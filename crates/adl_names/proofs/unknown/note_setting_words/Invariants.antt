use Rattle.adl_names.proofs.Common.{known_in, length, noted, scope_told, unknown_in_setting, ◌≡◌}
use Rattle.adl_names.proofs.unknown.note_setting_words.Given as goal

abbrev pub invariant-loop-rest : goal.invariant-loop-rest
invariant-loop-rest l =
    noted l.first (unknown_in_setting (known_in l.tables) (scope_told l.here) l.rest)
    ≡ noted l.fn.first (unknown_in_setting (known_in l.tables) (scope_told l.scope) l.words)

abbrev pub decreases-loop-rest : goal.decreases-loop-rest
decreases-loop-rest l = length l.rest
