use Rattle.cam_base.proofs.Common.{ap, arith, before_first, drop, length, length-drop, length-take, position_or_len, take_all, ◌-◌, ◌==◌, ◌∙◌}
use Rattle.cam_base.proofs.part.part_from.Goals as goal

pub returns : goal.returns
returns c =
    let rest = drop c.args.at c.args.bytes.now in
    let part = c.first_part.ensures ∙ ap (before_first (λ b. b == c.args.separator))
    (take_all (length c.args.bytes.now - c.args.at) rest (omega (arith, length-drop c.args.at c.args.bytes.now))) in
    let len = ap length part ∙ length-take (position_or_len (λ b. b == c.args.separator) rest) rest in
    record { part = part; within = omega (arith, len, length-drop c.args.at c.args.bytes.now) }
