use Rattle.policy_text.proofs.Common.{refl}
use Rattle.policy_text.proofs.Building.{built_edge_more}
use Rattle.policy_text.proofs.parts.Parts.add_edge.Goals as goal

pub returns : goal.returns
returns c = λ before line built. built_edge_more c.args.self.now _ before line c.args.from.text.now c.args.authority
    c.args.to.text.now built refl refl (rw (c.args.from.right, c.args.to.right) at c.in_ok-push.ensures.items)
