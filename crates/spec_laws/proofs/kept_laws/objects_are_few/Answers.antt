use Rattle.spec_laws.proofs.Common.{arith}
use Rattle.spec_laws.proofs.Few.{caps_few, caps_within, objects_few, objects_within}
use Rattle.spec_laws.proofs.kept_laws.objects_are_few.Goals as goal

pub returns-clause-objects : goal.returns-clause-objects
returns-clause-objects c = objects_few

pub returns-clause-caps : goal.returns-clause-caps
returns-clause-caps c = caps_few

pub returns-clause-few_objects : goal.returns-clause-few_objects
returns-clause-few_objects c = λ t sized. let l = objects_within t sized in omega (arith, l)

pub returns-clause-few_caps : goal.returns-clause-few_caps
returns-clause-few_caps c = λ t sized. let l = caps_within t sized in omega (arith, l)
