use Rattle.adl_names.proofs.Common.{ap, arith, common_steps, member_of, members_told, ◌≡◌}
use Rattle.adl_meaning.specs.Holding as holding
use Rattle.adl_names.proofs.tables.members_of.Goals as goal

pub returns : goal.returns
returns c = let same : members_told c.loop-instance.members ≡ member_of c.args.group.now =
    λ k n. (let e : members_told c.loop-instance.members n ≡ member_of c.args.group.now n = grind (arith, common_steps) in e k) in
    ap holding.a_group same
