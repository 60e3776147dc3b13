use Rattle.least_cert.proofs.Common.{arith, has_at}
use Rattle.least_cert.proofs.Finishing.{looks_all, looks_more, looks_none}
use Rattle.least_cert.proofs.close.close.Goals as goal

pub loop-done-init : goal.loop-done-init
loop-done-init c = looks_none c.args.closing.now c.requires

pub look-requires-clause-known : goal.look-requires-clause-known
look-requires-clause-known c = has_at c.loop-done.closing.queue c.loop-done.done c.edge.result c.edge.ensures

pub loop-done-preserved : goal.loop-done-preserved
loop-done-preserved c =
    looks_more c.loop-done.done c.edge.result c.args.closing.now c.loop-done.closing c.look.new.closing c.loop-done.invariant
    (omega (arith, c.count.ensures, c.loop-done-test.true)) c.edge.ensures c.in_ok-look.ensures.looked

pub returns-clause-closed : goal.returns-clause-closed
returns-clause-closed c = looks_all c.loop-done.done c.args.closing.now c.loop-done.closing c.loop-done.invariant
    (omega (arith, c.count.ensures, c.loop-done-test.false))
