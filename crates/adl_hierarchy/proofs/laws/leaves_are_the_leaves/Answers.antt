use Rattle.adl_hierarchy.proofs.Common.{hierarchy_of, top_number}
use Rattle.adl_hierarchy.proofs.Leaves.{leaves_stand, paths_are_leaves}
use Rattle.adl_hierarchy.proofs.Once.{leaf_paths_once}
use Rattle.adl_hierarchy.proofs.PartsAt.{at_part, last_of}
use Rattle.adl_hierarchy.proofs.laws.leaves_are_the_leaves.Goals as goal

pub returns-clause-paths : goal.returns-clause-paths
returns-clause-paths c = paths_are_leaves

pub returns-clause-once : goal.returns-clause-once
returns-clause-once c = leaf_paths_once

pub returns-clause-instances : goal.returns-clause-instances
returns-clause-instances c = leaves_stand

pub returns-clause-kinds : goal.returns-clause-kinds
returns-clause-kinds c = λ s sound x i.
    let h = hierarchy_of s in
    let e = (leaves_stand s sound x).0 i in
    (at_part h (top_number h) x.path x.part e.0, last_of h (top_number h) x.path x.part e.0)
