-- NoAssembly stands at the very beginning of the root, where no file has an assembly.
use Rattle.std.specs.Prelude.{◌==◌, List, length}
use Rattle.cam_base.specs.declared.code.Code.TheVariants as code
use Rattle.adl_meaning.specs.Below.{Assembly, Fault, Source}
use Rattle.adl_meaning.specs.Faults.{at_keyword, where_true}
use Rattle.adl_meaning.specs.Items.{assemblies}
use Rattle.adl_meaning.specs.declared.item_at.ItemAt.{ItemAt}

abbrev pub none_of : List (ItemAt × Assembly) → List Fault
none_of xs = where_true (length xs == 0) (at_keyword code.NoAssembly (record { file = 0; first = 0; end = 0 }))

abbrev pub no_assembly : Source → List Fault
no_assembly s = none_of (assemblies s)
