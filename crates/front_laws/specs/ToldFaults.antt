-- Which fault of a phase is told: one that stands, in the words of its own condition, and before which none stands.
use Rattle.std.specs.Prelude.{◌≡◌, false}
use Rattle.adl_meaning.specs.CompositeBody.{composite_bodies}
use Rattle.adl_meaning.specs.Faults.{precedes}
use Rattle.adl_meaning.specs.NoAssembly.{no_assembly}
use Rattle.adl_meaning.specs.SecondAssembly.{second_assemblies}
use Rattle.adl_meaning.specs.Prelude.{Fault, IsIn, Source, recursive_types}
use Rattle.front_laws.specs.MisfitExports.{IsMisfitIn}
use Rattle.front_laws.specs.Repeated.{IsDuplicate}
use Rattle.front_laws.specs.UnknownNames.{IsUnknown}

pub data IsNameFault (s : Source) (f : Fault) : Type 0 where
  second_assembly : IsIn f (second_assemblies s) → IsNameFault s f
  without_assembly : IsIn f (no_assembly s) → IsNameFault s f
  name_again : IsDuplicate s f → IsNameFault s f
  unknown_name : IsUnknown s f → IsNameFault s f
  holds_itself : IsIn f (recursive_types s) → IsNameFault s f
  composite_body : IsIn f (composite_bodies s) → IsNameFault s f
  misfit_export : IsMisfitIn s f → IsNameFault s f

-- it stands, and none comes before it
pub record IsTold (Stands : Fault → Type 0) (f : Fault) : Type 0 where
  pub stands : Stands f
  pub first : (g : Fault) → Stands g → precedes g f ≡ false
