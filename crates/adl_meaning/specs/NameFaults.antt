-- The faults of names that stand in a source, and the first of them.
use Rattle.std.specs.Prelude.{◌≡◌, List, [], ◌++◌, Option}
use Rattle.adl_meaning.specs.Below.{Fault, Source}
use Rattle.adl_meaning.specs.Faults.{least}
use Rattle.adl_meaning.specs.SecondAssembly.{second_assemblies}
use Rattle.adl_meaning.specs.NoAssembly.{no_assembly}
use Rattle.adl_meaning.specs.Duplicate.{duplicates}
use Rattle.adl_meaning.specs.Unknown.{unknown_names}
use Rattle.adl_meaning.specs.Recursive.{recursive_types}
use Rattle.adl_meaning.specs.CompositeBody.{composite_bodies}
use Rattle.adl_meaning.specs.Export.{misfit_exports}

abbrev pub name_faults : Source → List Fault
name_faults s =
    second_assemblies s ++ no_assembly s ++ duplicates s ++ unknown_names s ++ recursive_types s ++ composite_bodies s
    ++ misfit_exports s

abbrev pub first_name_fault : Source → Option Fault
first_name_fault s = least (name_faults s)

-- no fault of names stands
pub record AreNamesSound (s : Source) : Type 0 where
  pub one_assembly : second_assemblies s ≡ []
  pub an_assembly : no_assembly s ≡ []
  pub no_duplicates : duplicates s ≡ []
  pub all_known : unknown_names s ≡ []
  pub none_recursive : recursive_types s ≡ []
  pub bodies_fit : composite_bodies s ≡ []
  pub exports_fit : misfit_exports s ≡ []
