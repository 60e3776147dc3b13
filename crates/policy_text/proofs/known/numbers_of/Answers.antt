use Rattle.policy_text.proofs.Common.{Bool, ap, arith, is_some, label_name, sym, take, ℕ, ◌<◌, ◌==◌, ◌^◌, ◌||◌, ◌∙◌}
use Rattle.policy_text.proofs.KnownLabels.{named_more, has_more, small_more}
use Rattle.policy_text.proofs.known.numbers_of.Goals as goal

pub loop-label-preserved : goal.loop-label-preserved
loop-label-preserved c =
    let few : c.from.result < 2 ^ 32 = omega arith in
    record {
      each = λ n.
          has_more c.loop-label.numbers c.insert.new.self c.from.result n c.in_ok-insert.ensures.updates
          ∙ ap (λ (b : Bool). c.from.result == n || b) (c.loop-label.invariant.each n)
          ∙ ap (λ (k : ℕ). k == n || is_some (label_name (take c.loop-label.label-index c.args.labels.now) n)) c.from.ensures
          ∙ sym (named_more c.args.labels.now c.loop-label.label-index c.label-item.result n (omega arith) c.label-item.is);
      small = small_more c.loop-label.numbers c.insert.new.self c.from.result few c.loop-label.invariant.small
          c.in_ok-insert.ensures.updates;
    }
