use Rattle.system_spec.proofs.Common.{OfEnd, arith, get_or, get_or_default, ◌+◌}
use Rattle.system_spec.proofs.Domains.{count_turn, few_locks}
use Rattle.system_spec.proofs.landmarks.lock_count.Goals as goal

pub overflow_add-count : goal.overflow_add-count
overflow_add-count c =
    let uses = c.args.uses.now in
    let i = c.loop-used.used-index in
    let below = c.loop-used-test.true in
    let more = count_turn uses i c.loop-used.count _ (get_or uses i (OfEnd 0 0)) below (get_or_default _ _ _ _ below)
    c.lock_number-count.ensures c.loop-used.invariant in
    omega (arith, c.requires, more, few_locks uses (i + 1))

pub loop-used-preserved : goal.loop-used-preserved
loop-used-preserved c =
    let uses = c.args.uses.now in
    let i = c.loop-used.used-index in
    let below = c.loop-used-test.true in
    count_turn uses i c.loop-used.count _ (get_or uses i (OfEnd 0 0)) below (get_or_default _ _ _ _ below)
    c.lock_number-count.ensures c.loop-used.invariant
