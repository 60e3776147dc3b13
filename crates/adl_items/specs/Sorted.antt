-- The items of a source, sorted by kind.
use Rattle.std.specs.Prelude.{◌≡◌, ◌<◌, ◌^◌, List, length, map}
use Rattle.adl_meaning.specs.Prelude.{Assembly, Component, Item, Source}
use Rattle.adl_ast.specs.declared.procedure.Procedure.{Procedure}
use Rattle.adl_meaning.specs.Items as of
use Rattle.adl_items.specs.Located.{located}
use Rattle.adl_items.specs.declared.located.Located.{Located}

pub record AreSorted (items : List (Located Item)) (procedures : List (Located Procedure)) (components : List (Located Component))
    (assemblies : List (Located Assembly)) (s : Source) : Type 0 where
  pub items_are : map located items ≡ of.items_of s
  pub procedures_are : map located procedures ≡ of.procedures s
  pub components_are : map located components ≡ of.components s
  pub assemblies_are : map located assemblies ≡ of.assemblies s
  pub few : length components < 2 ^ 32
