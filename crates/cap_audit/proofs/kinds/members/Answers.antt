use Rattle.cap_audit.proofs.Common.{AreMembers, arith, get_or, get_or_default, length, subst, ℕ, ◌≡◌}
use Rattle.cap_audit.proofs.Kinding.{members_more, members_none}
use Rattle.cap_audit.proofs.kinds.members.Goals as goal

pub loop-c-init : goal.loop-c-init
loop-c-init c = members_none c.args.heads.now c.in_ok-members.members c.in_ok-members.ensures

pub loop-c-preserved : goal.loop-c-preserved
loop-c-preserved c =
    members_more c.args.heads.now c.loop-c.members c.push.new.self c.loop-c.c (get_or c.args.heads.now c.loop-c.c 0)
    c.loop-c.invariant (get_or_default c.args.heads.now c.loop-c.c 0 c.loop-c.c c.loop-c-test.true) c.in_ok-push.ensures

pub returns : goal.returns
returns c =
    let at_end : c.loop-c.c ≡ length c.args.heads.now = omega (arith, c.loop-c-test.false, c.loop-c.auto.c-end) in
    subst (λ (n : ℕ). AreMembers c.args.heads.now c.loop-c.members n) at_end c.loop-c.invariant
