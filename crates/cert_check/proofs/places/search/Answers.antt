use Rattle.cert_check.proofs.Common.{arith, length, slice_get-get_or, ℕ, ◌+◌, ◌-◌, ◌/◌, ◌<◌, ◌≤◌}
use Rattle.cert_check.proofs.Halving.{halved_up, halved_down, halved_end}
use Rattle.cert_check.proofs.places.search.Goals as goal

middle_below : (low high : ℕ) → low < high → low + (high - low) / 2 < high
middle_below low high less = omega arith

pub loop-low-preserved-then-is_before : goal.loop-low-preserved-then-is_before
loop-low-preserved-then-is_before c =
    halved_up c.args.cert.now c.args.edge.now c.loop-low.low c.loop-low.high
    (c.loop-low.low + (c.loop-low.high - c.loop-low.low) / 2) c.in-Some.other c.requires.sorted c.loop-low.invariant
    (middle_below c.loop-low.low c.loop-low.high c.loop-low-test.true) (cc) (c.is_before.ensures.yes c.if-is_before.true)

pub loop-low-preserved-in_default : goal.loop-low-preserved-in_default
loop-low-preserved-in_default c =
    halved_down c.args.cert.now c.args.edge.now c.loop-low.low c.loop-low.high
    (c.loop-low.low + (c.loop-low.high - c.loop-low.low) / 2) c.in-Some.other c.requires.sorted c.loop-low.invariant
    (omega arith) (middle_below c.loop-low.low c.loop-low.high c.loop-low-test.true) (cc)
    (c.is_before.ensures.no c.if-is_before.false)

pub loop-low-preserved : goal.loop-low-preserved
loop-low-preserved c = absurd (
    let m : ℕ = c.loop-low.low + (c.loop-low.high - c.loop-low.low) / 2 in
    let less : m < c.loop-low.high = middle_below c.loop-low.low c.loop-low.high c.loop-low-test.true in
    let bound : c.loop-low.high ≤ length c.args.cert.now = c.loop-low.invariant.bound in
    let within : m < length c.args.cert.now = omega arith in
    let there = slice_get-get_or c.args.cert.now m c.args.edge.now within in
    cc)

pub returns : goal.returns
returns c = halved_end c.args.cert.now c.args.edge.now c.loop-low.low c.loop-low.high c.loop-low.invariant c.loop-low-test.false
