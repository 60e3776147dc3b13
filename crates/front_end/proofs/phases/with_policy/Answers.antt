use Rattle.front_end.proofs.Common.{refl}
use Rattle.front_end.proofs.Refusing.{no_edge_fault, policy_assigned, policy_refuses}
use Rattle.front_end.proofs.Within.{few_labels, sound_within}
use Rattle.front_end.proofs.phases.with_policy.Goals as goal

pub policy_of-requires-clause-within : goal.policy_of-requires-clause-within
policy_of-requires-clause-within c = let m = c.args.meaning in sound_within m.source m.flat m.settled c.requires

pub policy_of-requires-clause-few : goal.policy_of-requires-clause-few
policy_of-requires-clause-few c = let m = c.args.meaning in few_labels m.source m.flat m.settled c.requires

pub returns-in-Ok : goal.returns-in-Ok
returns-in-Ok c =
    let m = c.args.meaning in
    let e = c.in-Ok.ensures in (
      refl,
      refl,
      refl,
      no_edge_fault m c.requires.meant e.limit,
      policy_assigned m c.in-Ok.assigned.policy c.requires.meant
          e.labels e.objects e.edges e.sorted,
      e.numbers,
    )

pub returns-in-Err : goal.returns-in-Err
returns-in-Err c = policy_refuses c.args.meaning c.in-Err.refused c.in_file.result c.requires.meant c.in-Err.ensures.limit
    c.in_file.ensures
