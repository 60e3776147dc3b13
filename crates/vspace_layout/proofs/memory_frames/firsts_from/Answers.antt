use Rattle.vspace_layout.proofs.Common.{None, [], ap, first_of, ◌++◌, ◌+◌, ◌∙◌, ◌∷◌}
use Rattle.vspace_layout.proofs.MemoryNumbers.{copy_turn}
use Rattle.vspace_layout.proofs.memory_frames.firsts_from.Goals as goal

pub loop-number-preserved : goal.loop-number-preserved
loop-number-preserved c =
    copy_turn (λ k first. (c.args.own + first_of c.args.shared.now c.args.registered.now first k) ∷ []) c.args.numbers.now
    c.loop-number.number None [] c.loop-number.firsts.items _ c.loop-number-test.true c.loop-number.invariant
    (c.in_ok-push.ensures.items ∙ ap (λ n. c.loop-number.firsts.items ++ (c.args.own + n) ∷ []) c.first_of.ensures)
