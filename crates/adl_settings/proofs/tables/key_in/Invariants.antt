use Rattle.adl_settings.proofs.SettleCommon.{Id, [], drop, path_from, path_of, pointed, ◌++◌, ◌∷◌, ◌≡◌}
use Rattle.adl_settings.proofs.tables.key_in.Given as goal

abbrev pub invariant-loop-word : goal.invariant-loop-word
invariant-loop-word l =
    (last : Id) → pointed l.key.items ++ path_from l.bodies l.at (drop l.word-index l.inner ++ last ∷ []) ≡ path_of l.bodies
    l.body (l.inner ++ last ∷ [])
