use Rattle.cap_machine.proofs.Common.{arith, pow_mono, ◌%◌, ◌*◌, ◌^◌, ◌≡◌, ◌≤◌}
use Rattle.cap_machine.proofs.NodeSlots.{boot_below}
use Rattle.cap_machine.proofs.node.Node.boot.Goals as goal

pub invariant_of-result : goal.invariant_of-result
invariant_of-result c =
    let few : 2 ^ c.args.bits ≤ 2 ^ 16 = pow_mono c.requires.few in
    let next : 1 * 2 ^ c.args.bits % 2 ^ 64 ≡ 2 ^ c.args.bits = omega arith in
    record {
      rising = c.in_ok-boot_contents.ensures.ordered;
      below = rw (c.in_ok-boot_contents.ensures.entries, next) (boot_below (2 ^ c.args.bits) c.args.slots.now c.requires.below);
    }
