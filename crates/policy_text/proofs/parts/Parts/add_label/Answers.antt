use Rattle.policy_text.proofs.Common.{refl}
use Rattle.policy_text.proofs.Building.{built_label_more}
use Rattle.policy_text.proofs.parts.Parts.add_label.Goals as goal

pub returns : goal.returns
returns c = λ before line built. built_label_more c.args.self.now _ before line c.args.number.text.now c.args.name.now built
    (rw (c.args.number.right, c.in_ok-text.ensures) at c.in_ok-insert.ensures.entries) refl refl
