use Rattle.system_spec.proofs.Common.{CNode, CNodeOf, OfDomain, Part, get_or, read_in}
use Rattle.system_spec.proofs.made.push_objects.Goals as goal

pub push_object-requires-clause-there : goal.push_object-requires-clause-there
push_object-requires-clause-there c =
    let first : Part = record { series = CNode; number = 0; owner = OfDomain 0; what = CNodeOf 0 } in
    let ps = c.args.parts.now in
    let i = c.loop-part.part-index in
    c.requires.there (get_or ps i first) (read_in ps i first c.loop-part-test.true)
