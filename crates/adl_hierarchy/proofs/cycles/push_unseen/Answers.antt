use Rattle.adl_hierarchy.proofs.Common.{Global, Vec, arith, has, subst, sym, true, ℕ, ◌<◌, ◌≡◌}
use Rattle.adl_hierarchy.proofs.CycleSearch.{more_below}
use Rattle.adl_hierarchy.proofs.Marks.{has_at}
use Rattle.adl_hierarchy.proofs.cycles.push_unseen.Goals as goal
use Rattle.adl_hierarchy.proofs.cycles.push_unseen.Goals.{then-not-contains+in_ok-push, else-not-contains}

pub contains-requires : goal.contains-requires
contains-requires c = c.requires.inner _ (has_at c.args.inner.now c.loop-number.number-index (omega arith))

pub loop-number-preserved : goal.loop-number-preserved
loop-number-preserved c =
    let l = c.requires.inner _ (has_at c.args.inner.now c.loop-number.number-index (omega arith)) in
    let P : Vec ℕ Global → Type 0 = λ v. (x : ℕ) → has v.items x ≡ true → x < c.args.seen.now.size in
    elim c.if-not-contains.branch [
      | then-not-contains+in_ok-push w ↦
          subst P (sym w.waiting-is) (more_below c.loop-number.waiting.items _ _ _ w.in_ok-push.ensures.items
          c.loop-number.invariant l)
      | else-not-contains w ↦ subst P (sym w.waiting-is) c.loop-number.invariant
    ]
