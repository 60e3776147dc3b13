use Rattle.adl_settings.proofs.Common.{badge_twice_at, badges_twice_in, drop, flat_map, is_marked, noted, ◌≡◌}
use Rattle.adl_settings.proofs.twice.note_badges_twice.Given as goal

abbrev pub invariant-loop-end : goal.invariant-loop-end
invariant-loop-end l = noted l.first (flat_map (badge_twice_at (is_marked l.twice.entries)) (drop l.end-index l.ends)) ≡ noted
    l.fn.first (badges_twice_in l.ends)
