use Rattle.adl_settings.proofs.Common.{ap, badge_twice_at, flat_map, is_repeated, noted, ◌∙◌}
use Rattle.adl_settings.proofs.twice.note_badges_twice.Goals as goal

pub loop-end-init : goal.loop-end-init
loop-end-init c =
    let badges = ap is_repeated (c.as_slice.ensures.value ∙ c.in_ok-badges.ensures) in
    λ i. noted c.args.first.now (flat_map (badge_twice_at (λ n. (c.in_ok-twice.ensures n ∙ (λ j. badges j n)) i)) c.args.ends.now)
