use Rattle.policy_text.proofs.Common.{sym}
use Rattle.policy_text.proofs.Building.{built_object_none, builds_object}
use Rattle.policy_text.proofs.parts.Parts.add_object.Goals as goal

pub returns-then-not-is_name : goal.returns-then-not-is_name
returns-then-not-is_name c = λ before line built. built_object_none c.args.self.now before line c.args.word.now
    c.args.number.text.now built (sym c.if-not-is_name.ensures)

pub returns : goal.returns
returns c =
    builds_object c.args.self.now c.push.new.self c.args.word.now c.args.number.text.now c.push.result
    (sym c.if-not-is_name.ensures) (rw (c.in_ok-name.ensures, c.args.number.right) at c.push.ensures.ok)
