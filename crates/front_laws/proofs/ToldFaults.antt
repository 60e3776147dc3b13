-- The first fault of a list, in the words of what stands in the list.
use Rattle.front_laws.proofs.Common.{AreNamesSound, Fault, IsIn, IsTypeFault, List, None, Some, Source, duplicates, first_type_fault, hierarchy_of, in_append, in_left, in_right, inl, inr, misfit_exports, recursive_types, type_faults, unknown_names}
use Rattle.front_laws.proofs.Common.{rules, ◌++◌, ◌≡◌}
use Rattle.adl_meaning.specs.CompositeBody.{composite_bodies}
use Rattle.adl_meaning.specs.NameFaults.{first_name_fault, name_faults}
use Rattle.adl_meaning.specs.NoAssembly.{no_assembly}
use Rattle.adl_meaning.specs.SecondAssembly.{second_assemblies}
use Rattle.adl_meaning.proofs.Least.{first_of, none_stands}
use Rattle.front_laws.specs.ToldFaults.{IsNameFault, IsTold, composite_body, holds_itself, misfit_export, name_again, second_assembly, unknown_name, without_assembly}
use Rattle.front_laws.proofs.MisfitExports.{from_misfits, in_misfits}
use Rattle.front_laws.proofs.Repeating.{from_duplicates, in_duplicates}
use Rattle.front_laws.proofs.TypesByHierarchy.{from_type_faults, in_type_faults}
use Rattle.front_laws.proofs.UnknownNames.{from_unknown, in_unknown}

-- the lists in front of one of the seven
abbrev two : Source → List Fault
two s = second_assemblies s ++ no_assembly s

abbrev three : Source → List Fault
three s = two s ++ duplicates s

abbrev four : Source → List Fault
four s = three s ++ unknown_names s

abbrev five : Source → List Fault
five s = four s ++ recursive_types s

abbrev six : Source → List Fault
six s = five s ++ composite_bodies s

from_names : (s : Source) (f : Fault) → IsIn f (name_faults s) → IsNameFault s f
from_names s f i = elim (in_append f (six s) (misfit_exports s) i) [
  | inr j ↦ misfit_export (from_misfits s f j)
  | inl j ↦ elim (in_append f (five s) (composite_bodies s) j) [
    | inr k ↦ composite_body k
    | inl k ↦ elim (in_append f (four s) (recursive_types s) k) [
      | inr l ↦ holds_itself l
      | inl l ↦ elim (in_append f (three s) (unknown_names s) l) [
        | inr m ↦ unknown_name (from_unknown s f m)
        | inl m ↦ elim (in_append f (two s) (duplicates s) m) [
          | inr n ↦ name_again (from_duplicates s f n)
          | inl n ↦ search (rules, in_append)
        ]
      ]
    ]
  ]
]

-- what is in the first so many lists is in all
past_two : (s : Source) (f : Fault) → IsIn f (two s) → IsIn f (name_faults s)
past_two s f i = search (rules, in_left)

in_names : (s : Source) (f : Fault) → IsNameFault s f → IsIn f (name_faults s)
in_names s f (second_assembly i) = past_two s f (in_left f (second_assemblies s) (no_assembly s) i)
in_names s f (without_assembly i) = past_two s f (in_right f (second_assemblies s) (no_assembly s) i)
in_names s f (name_again d) = search (rules, in_left, in_right, in_duplicates)
in_names s f (unknown_name u) = search (rules, in_left, in_right, in_unknown)
in_names s f (holds_itself i) =
    in_left f (six s) (misfit_exports s) (in_left f (five s) (composite_bodies s) (in_right f (four s) (recursive_types s) i))
in_names s f (composite_body i) = in_left f (six s) (misfit_exports s) (in_right f (five s) (composite_bodies s) i)
in_names s f (misfit_export m) = in_right f (six s) (misfit_exports s) (in_misfits s f m)

pub told_name : (s : Source) (f : Fault) → first_name_fault s ≡ Some f → IsTold (IsNameFault s) f
told_name s f e = let k = first_of (name_faults s) f e in
    record { stands = from_names s f k.0; first = λ g i. k.1 g (in_names s g i) }

pub no_name : (s : Source) → first_name_fault s ≡ None → (f : Fault) → IsNameFault s f → ⊥
no_name s e f i = none_stands (name_faults s) e f (in_names s f i)

pub told_type : (s : Source) → AreNamesSound s → (f : Fault) → first_type_fault s ≡ Some f
    → IsTold (IsTypeFault (hierarchy_of s)) f
told_type s sound f e = let k = first_of (type_faults s) f e in record {
  stands = from_type_faults s f k.0;
  first = λ g i. k.1 g (in_type_faults s sound g i);
}

pub no_type : (s : Source) → AreNamesSound s → first_type_fault s ≡ None → (f : Fault) → IsTypeFault (hierarchy_of s) f → ⊥
no_type s sound e f i = none_stands (type_faults s) e f (in_type_faults s sound f i)
