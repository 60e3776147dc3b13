use Rattle.arch_compile.proofs.Common.{refl}
use Rattle.arch_compile.proofs.FromTables.{few_objects, here_assigned, here_builds, here_made, here_windowed}
use Rattle.arch_compile.proofs.building.with_made.Goals as goal

pub made_of-requires-clause-buildable : goal.made_of-requires-clause-buildable
made_of-requires-clause-buildable c =
    let f = c.args.front in
    here_builds f.source f.flat f.settled c.args.images.now c.args.layout f.numbers c.requires.laid c.requires.numbered

pub made_of-requires-clause-windowed : goal.made_of-requires-clause-windowed
made_of-requires-clause-windowed c =
    let f = c.args.front in
    here_windowed f.source f.flat f.settled c.args.images.now c.args.layout f.numbers c.requires.laid c.requires.numbered

pub made_of-requires-clause-assigned : goal.made_of-requires-clause-assigned
made_of-requires-clause-assigned c =
    let f = c.args.front in
    here_assigned f.source f.flat f.settled c.args.images.now c.args.layout f.numbers c.requires.laid c.requires.numbered
    f.policy c.requires.sound.meant c.requires.assigned

pub with_objects-requires : goal.with_objects-requires
with_objects-requires c =
    let f = c.args.front in
    few_objects _ _ (here_builds f.source f.flat f.settled c.args.images.now c.args.layout f.numbers c.requires.laid
    c.requires.numbered) c.in_ok-system.ensures.spec

pub returns : goal.returns
returns c =
    let f = c.args.front in (
      refl,
      here_made f.source f.flat f.settled c.args.images.now c.args.layout f.numbers c.requires.laid c.requires.numbered
          f.policy _ _ c.requires.sound.meant c.requires.assigned c.in_ok-system.ensures c.in_ok-policy.ensures,
    )
