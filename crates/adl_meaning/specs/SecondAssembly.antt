-- SecondAssembly stands at the keyword of each assembly that isn't the first, in the order of files and bytes.
use Rattle.std.specs.Prelude.{List, map, drop}
use Rattle.cam_base.specs.declared.code.Code.TheVariants as code
use Rattle.adl_meaning.specs.Below.{Assembly, Fault, Source}
use Rattle.adl_meaning.specs.Faults.{at_keyword}
use Rattle.adl_meaning.specs.Items.{assemblies}
use Rattle.adl_meaning.specs.declared.item_at.ItemAt.{ItemAt}

abbrev pub second_of : List (ItemAt × Assembly) → List Fault
second_of xs = map (λ a. at_keyword code.SecondAssembly a.1.place) (drop 1 xs)

abbrev pub second_assemblies : Source → List Fault
second_assemblies s = second_of (assemblies s)
