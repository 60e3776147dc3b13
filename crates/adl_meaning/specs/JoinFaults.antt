-- The faults of joins that stand in a source: interfaces joined twice or not at all, and what may not stand where it does.
-- They are looked at where no limit of the hierarchy is passed.
use Rattle.std.specs.Prelude.{List, ◌++◌, Option}
use Rattle.adl_meaning.specs.Below.{Fault, Source, option_or}
use Rattle.adl_meaning.specs.Faults.{least}
use Rattle.adl_meaning.specs.Hierarchy.{Hierarchy, hierarchy_of}
use Rattle.adl_meaning.specs.Placement.{misplaced_in}
use Rattle.adl_meaning.specs.SizeFaults.{first_size_fault}
use Rattle.adl_meaning.specs.Unconnected.{unconnected_in}
use Rattle.adl_meaning.specs.UsedTwice.{used_twice_in}

abbrev pub join_faults_in : Hierarchy → List Fault
join_faults_in h = used_twice_in h ++ unconnected_in h ++ misplaced_in h

abbrev pub join_faults : Source → List Fault
join_faults s = join_faults_in (hierarchy_of s)

abbrev pub first_join_fault : Source → Option Fault
first_join_fault s = least (join_faults s)

-- a limit that is passed, or else a fault of joins
abbrev pub first_flat_fault : Source → Option Fault
first_flat_fault s = option_or (first_size_fault s) (first_join_fault s)
