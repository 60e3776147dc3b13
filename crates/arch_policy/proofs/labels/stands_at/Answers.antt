-- stands_at
use Rattle.arch_policy.proofs.Common.{get_or_default, joined, subst, sym, ◌∙◌, ◌≡◌}
use Rattle.arch_policy.proofs.Ordering.{Rises, order_rises, rank_here}
use Rattle.arch_policy.proofs.labels.stands_at.Goals as goal

pub returns-in-Some : goal.returns-in-Some
returns-in-Some c h =
    let ts = c.args.texts.now in
    let other = c.in-Some.other.now in
    let text = joined c.args.names.now in
    let there = c.in-Some.ensures.lookup in
    let same : other ≡ text = sym c.as_bytes.ensures ∙ c.are_joined.ensures h in
    let rises : Rises ts = subst Rises (sym c.requires.1) (order_rises c.requires.0) in
    rank_here ts c.args.place text rises there.3.0 (sym same ∙ there.1 ∙ get_or_default ts c.args.place other text there.3.0)
