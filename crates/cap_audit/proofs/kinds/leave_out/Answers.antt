use Rattle.cap_audit.proofs.Kinding.{head_roots_of, left_more, left_none}
use Rattle.cap_audit.proofs.kinds.leave_out.Goals as goal

pub loop-c-init : goal.loop-c-init
loop-c-init c = left_none c.args.heads.now c.args.roots.now

pub loop-c-preserved : goal.loop-c-preserved
loop-c-preserved c = left_more c.args.heads.now c.args.roots.now c.loop-c.roots c.loop-c.c c.loop-c.invariant c.leave.new.roots
    c.leave.ensures

pub returns : goal.returns
returns c = head_roots_of c.args.spec.now c.args.heads.now c.args.roots.now c.loop-c.roots c.requires.roots c.loop-c.invariant
