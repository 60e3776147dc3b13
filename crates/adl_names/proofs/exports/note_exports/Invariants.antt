use Rattle.adl_names.proofs.Common.{as_export, drop, false, filter_map, held_as, known_in, misfits_after, misfits_from, noted, owner_of, ◌≡◌}
use Rattle.adl_names.proofs.exports.note_exports.Given as goal

abbrev pub invariant-loop-line : goal.invariant-loop-line
invariant-loop-line l =
    noted l.first (misfits_from l.tables l.owner l.holding l.taken (filter_map as_export (drop l.line-index l.line-items)))
    ≡ noted l.fn.first (misfits_after (known_in l.tables) (owner_of l.owner) (held_as l.holding) (λ n. false) (λ p. false)
    (filter_map as_export l.line-items))
