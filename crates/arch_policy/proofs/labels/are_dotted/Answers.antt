-- are_dotted
use Rattle.arch_policy.proofs.Common.{ap, arith, ◌++◌, ◌∙◌}
use Rattle.arch_policy.proofs.Dotted.{dotted_turn}
use Rattle.arch_policy.proofs.labels.are_dotted.Goals as goal

pub loop-name-preserved : goal.loop-name-preserved
loop-name-preserved c = λ more.
    c.loop-name.invariant
    (dotted_turn c.args.names.now c.loop-name.name-index c.name-item.result c.loop-name.left.now c.in-Some.rest.now
    c.loop-name-test.true c.name-item.is c.in-len1-up.len_at_least (omega (arith, c.if-dot-ne46.false))
    (c.in-Some.ensures ∙ ap (λ n. n ++ c.in-Some.rest.now) c.as_bytes.ensures.bytes) more)
