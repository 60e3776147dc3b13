use Rattle.adl_hierarchy.proofs.Common.{arith, get_or, inl, inr, subst, sym, ℕ, ◌<◌, ◌≡◌, ◌⊎◌}
use Rattle.adl_hierarchy.proofs.Marks.{has_at}
use Rattle.adl_hierarchy.proofs.Walks.{has_more}
use Rattle.adl_hierarchy.proofs.cycles.rises_at.Goals as goal
use Rattle.adl_hierarchy.proofs.cycles.rises_at.Goals.{else-other-root-via-then-other-root+else-ranks-root, else-other-root-via-else-other-root}

pub bounds-roots-number : goal.bounds-roots-number
bounds-roots-number c = c.requires.inner _ (has_at c.args.inner.now c.loop-number.number-index (omega arith))

pub loop-number-preserved : goal.loop-number-preserved
loop-number-preserved c = λ d e.
    let inner = c.args.inner.now in
    let roots = c.args.roots.now in
    let ranks = c.args.ranks.now in
    let n : ℕ = get_or inner c.loop-number.number-index 0 in
    let P : ℕ → Type 0 = λ y. (get_or roots y 0 ≡ c.args.root)
    ⊎ (get_or ranks c.args.root 0 < get_or ranks (get_or roots y 0) 0) in
    elim (has_more inner c.loop-number.number-index d (omega arith) e) [
      | inl p ↦ c.loop-number.invariant d p
      | inr s ↦ subst P (sym s) (elim c.else-other-root.branch [
        | else-other-root-via-then-other-root+else-ranks-root w ↦ inr (omega (arith, w.if-ranks-root.false))
        | else-other-root-via-else-other-root w ↦ inl w.if-other-root.false
      ])
    ]
