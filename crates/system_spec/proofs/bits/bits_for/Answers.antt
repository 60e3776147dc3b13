use Rattle.system_spec.proofs.Common.{arith, ◌*◌, ◌+◌, ◌^◌, ◌∙◌, ◌≡◌, ◌≤◌}
use Rattle.std.proofs.lemmas.Nat.{pow-add}
use Rattle.system_spec.proofs.Sizes.{bits_more}
use Rattle.system_spec.proofs.bits.bits_for.Goals as goal

pub loop-bits-preserved : goal.loop-bits-preserved
loop-bits-preserved c =
    let b = c.loop-bits.bits in
    let kept = c.loop-bits.invariant in
    let double : c.loop-bits.size * 2 ≡ 2 ^ (b + 1) = omega (arith, pow-add 2 b 1) in
    let full : 2 ^ b ≤ c.args.slots = omega arith in
    (omega arith, double, bits_more c.args.slots b (omega arith) full ∙ kept.2)
