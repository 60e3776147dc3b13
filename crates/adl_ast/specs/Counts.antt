-- Which items of a file are imports, procedures, components and assemblies.
use Rattle.std.specs.Prelude.{Bool, true, false}
use Rattle.adl_ast.specs.declared.file.Ended.{Ended}
use Rattle.adl_ast.specs.declared.file.Item.{Item}
use Rattle.adl_ast.specs.declared.file.Item.TheVariants as items
use Rattle.adl_ast.specs.declared.file.ItemKind.{ItemKind}
use Rattle.adl_ast.specs.declared.file.ItemKind.TheVariants as kinds

abbrev pub is_import_item : Item → Bool
is_import_item (items.Import i) = true
is_import_item (items.Procedure p) = false
is_import_item (items.Component c) = false
is_import_item (items.Assembly a) = false

abbrev pub is_procedure_item : Item → Bool
is_procedure_item (items.Import i) = false
is_procedure_item (items.Procedure p) = true
is_procedure_item (items.Component c) = false
is_procedure_item (items.Assembly a) = false

abbrev pub is_component_item : Item → Bool
is_component_item (items.Import i) = false
is_component_item (items.Procedure p) = false
is_component_item (items.Component c) = true
is_component_item (items.Assembly a) = false

abbrev pub is_assembly_item : Item → Bool
is_assembly_item (items.Import i) = false
is_assembly_item (items.Procedure p) = false
is_assembly_item (items.Component c) = false
is_assembly_item (items.Assembly a) = true

abbrev pub is_import : Ended → Bool
is_import e = is_import_item e.item

abbrev pub is_procedure : Ended → Bool
is_procedure e = is_procedure_item e.item

abbrev pub is_component : Ended → Bool
is_component e = is_component_item e.item

abbrev pub is_assembly : Ended → Bool
is_assembly e = is_assembly_item e.item

abbrev pub is_item : ItemKind → Ended → Bool
is_item kinds.Imports = is_import
is_item kinds.Procedures = is_procedure
is_item kinds.Components = is_component
is_item kinds.Assemblies = is_assembly
