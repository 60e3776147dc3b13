use Rattle.cap_audit.proofs.Common.{inl, inr, refl, sym, ◌∙◌}
use Rattle.std.proofs.lemmas.List.Elements.{Contains-get_or}
use Rattle.cap_audit.proofs.kinds.first_like.Goals as goal

pub returns-then-mark_at : goal.returns-then-mark_at
returns-then-mark_at c =
    inr (
      Contains-get_or c.args.row.now c.loop-r.r-index 0 c.loop-r-test.true,
      sym c.mark_at.ensures
          ∙ (c.if-mark_at.true ∙ c.mark_at-in-loop-r.ensures),
    )

pub returns : goal.returns
returns c = inl refl
