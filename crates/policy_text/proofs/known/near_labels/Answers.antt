use Rattle.policy_text.proofs.Common.{arith, is_some, label_name, subst, take, ℕ, ◌+◌, ◌==◌, ◌||◌, ◌≡◌}
use Rattle.policy_text.proofs.KnownLabels.{named_more, near_more, near_kept}
use Rattle.policy_text.proofs.known.near_labels.Goals as goal
use Rattle.policy_text.proofs.known.near_labels.Goals.{then-from-near, else-from-near}

pub loop-label-preserved : goal.loop-label-preserved
loop-label-preserved c = elim c.if-from-near.branch [
  | then-from-near w ↦ rw w.near-is
      (near_more (take c.loop-label.label-index c.args.labels.now) (take (c.loop-label.label-index + 1) c.args.labels.now)
      c.loop-label.near
      (λ n. subst (λ (k : ℕ). is_some (label_name (take (c.loop-label.label-index + 1) c.args.labels.now) n) ≡ (k == n
      || is_some (label_name (take c.loop-label.label-index c.args.labels.now) n))) (cc)
      (named_more c.args.labels.now c.loop-label.label-index c.label-item.result n (omega arith) c.label-item.is))
      c.loop-label.invariant)
  | else-from-near w ↦ rw w.near-is
      (near_kept (take c.loop-label.label-index c.args.labels.now) (take (c.loop-label.label-index + 1) c.args.labels.now)
      c.loop-label.near c.label-item.result.0
      (λ n. named_more c.args.labels.now c.loop-label.label-index c.label-item.result n (omega arith) c.label-item.is)
      c.loop-label.invariant)
]
