use Rattle.policy_text.proofs.Common.{arith, object_line, says_line, says_lines, says_nothing}
use Rattle.policy_text.proofs.write.write_objects.Goals as goal

pub loop-object-init : goal.loop-object-init
loop-object-init g c = says_nothing

pub loop-object-preserved : goal.loop-object-preserved
loop-object-preserved g c = says_line object_line c.args.objects.now c.loop-object.object-index c.object-item.result (omega arith)
    c.object-item.is c.loop-object.invariant c.write_object.ensures

pub returns : goal.returns
returns g c = says_lines object_line c.args.objects.now c.loop-object.object-index (omega arith) c.loop-object.invariant
