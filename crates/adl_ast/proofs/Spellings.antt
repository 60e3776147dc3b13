-- Each part of each public form has a spelling.
use Rattle.adl_ast.proofs.Common.{IsSpellable, Kind, List, Seen, [], codes, interface_written, params_written, parts_have_spellings, refl, token_code, true, typed_written, ℕ, ◌∷◌, ◌≡◌}
use Rattle.cam_base.specs.declared.token.Kind.TheVariants as kinds
use Rattle.cam_base.specs.declared.token.Keyword.TheVariants as keys
use Rattle.cam_base.specs.declared.token.Mark.TheVariants as marks
use Rattle.adl_ast.specs.Forms.{file_line, ended_line, item_line, procedure_line, proc_member_line, method_line, typed_line, params_line, void_params_line, other_params_line, directed_line, undirected_line, direction_line, param_line, component_line}
use Rattle.adl_ast.specs.Forms.{assembly_line, member_line, flag_line, import_line, interface_line, plain_port_line, dataport_line, buf_line, data_line, attribute_line, lock_line, composition_line, composition_member_line, instance_line, group_line}
use Rattle.adl_ast.specs.Forms.{connection_line, end_line, dotted_line, export_line, configuration_line, setting_line, path_line, setter_line, value_line, nested_line, list_line, values_line, dictionary_line, entries_line, entry_line}

abbrev sample : Kind → List ℕ → Seen
sample kind text = record { kind = kind; text = text; place = record { file = 0; first = 0; end = 0 } }

-- a token of each code
abbrev pub samples : List Seen
samples =
    sample kinds.Word [] ∷ sample kinds.Word (codes "void") ∷ sample kinds.Word (codes "Buf") ∷ sample (kinds.Number 0) []
    ∷ sample kinds.Text [] ∷ sample kinds.Angle []
    ∷ sample (kinds.Mark marks.BraceL) []
    ∷ sample (kinds.Mark marks.BraceR) []
    ∷ sample (kinds.Mark marks.ParenL) []
    ∷ sample (kinds.Mark marks.ParenR) []
    ∷ sample (kinds.Mark marks.SquareL) []
    ∷ sample (kinds.Mark marks.SquareR) []
    ∷ sample (kinds.Mark marks.Semi) []
    ∷ sample (kinds.Mark marks.Comma) []
    ∷ sample (kinds.Mark marks.Dot) []
    ∷ sample (kinds.Mark marks.Equals) []
    ∷ sample (kinds.Mark marks.Colon) []
    ∷ sample (kinds.Mark marks.Arrow) []
    ∷ sample (kinds.Mark marks.Back) []
    ∷ sample (kinds.Key keys.KAssembly) []
    ∷ sample (kinds.Key keys.KAttribute) []
    ∷ sample (kinds.Key keys.KBinarySemaphore) []
    ∷ sample (kinds.Key keys.KComponent) []
    ∷ sample (kinds.Key keys.KComposition) []
    ∷ sample (kinds.Key keys.KConfiguration) []
    ∷ sample (kinds.Key keys.KConnection) []
    ∷ sample (kinds.Key keys.KConsumes) []
    ∷ sample (kinds.Key keys.KControl) []
    ∷ sample (kinds.Key keys.KDataport) []
    ∷ sample (kinds.Key keys.KEmits) []
    ∷ sample (kinds.Key keys.KExport) []
    ∷ sample (kinds.Key keys.KFrom) []
    ∷ sample (kinds.Key keys.KGroup) []
    ∷ sample (kinds.Key keys.KHardware) []
    ∷ sample (kinds.Key keys.KHas) []
    ∷ sample (kinds.Key keys.KImport) []
    ∷ sample (kinds.Key keys.KIn) []
    ∷ sample (kinds.Key keys.KInclude) []
    ∷ sample (kinds.Key keys.KInout) []
    ∷ sample (kinds.Key keys.KMaybe) []
    ∷ sample (kinds.Key keys.KMutex) []
    ∷ sample (kinds.Key keys.KOut) []
    ∷ sample (kinds.Key keys.KProcedure) []
    ∷ sample (kinds.Key keys.KProvides) []
    ∷ sample (kinds.Key keys.KRefin) []
    ∷ sample (kinds.Key keys.KSemaphore) []
    ∷ sample (kinds.Key keys.KTo) []
    ∷ sample (kinds.Key keys.KUses) []
    ∷ []

pub nested_spellable : IsSpellable token_code samples nested_line
unfolding nested_line list_line values_line value_line dictionary_line entries_line entry_line
nested_spellable = record { some = refl; parts = refl }

pub value_parts : parts_have_spellings token_code samples true value_line ≡ true
unfolding value_line
value_parts = refl

pub composition_parts : parts_have_spellings token_code samples true composition_line ≡ true
unfolding composition_line composition_member_line instance_line group_line connection_line end_line dotted_line export_line
composition_parts = refl

pub configuration_parts : parts_have_spellings token_code samples true configuration_line ≡ true
unfolding configuration_line setting_line path_line setter_line value_line
configuration_parts = refl

pub assembly_parts : parts_have_spellings token_code samples true assembly_line ≡ true
unfolding assembly_line composition_line composition_member_line instance_line group_line connection_line end_line dotted_line
    export_line configuration_line setting_line path_line setter_line value_line
assembly_parts = refl

pub file_parts : parts_have_spellings token_code samples true file_line ≡ true
unfolding file_line ended_line item_line procedure_line proc_member_line method_line typed_line params_line void_params_line
    other_params_line directed_line undirected_line direction_line param_line component_line assembly_line member_line flag_line
    import_line interface_line plain_port_line dataport_line buf_line data_line attribute_line lock_line composition_line
    composition_member_line instance_line group_line connection_line end_line dotted_line export_line configuration_line
    setting_line path_line setter_line value_line
file_parts = refl

pub typed_parts : parts_have_spellings token_code samples true typed_line ≡ true
unfolding typed_line
typed_parts = refl

pub typed_written_parts : parts_have_spellings token_code samples true typed_written ≡ true
typed_written_parts = refl

pub params_parts : parts_have_spellings token_code samples true params_line ≡ true
unfolding params_line void_params_line other_params_line directed_line undirected_line direction_line param_line typed_line
params_parts = refl

pub params_written_parts : parts_have_spellings token_code samples true params_written ≡ true
unfolding param_line direction_line typed_line
params_written_parts = refl

pub interface_parts : parts_have_spellings token_code samples true interface_line ≡ true
unfolding interface_line plain_port_line dataport_line buf_line data_line
interface_parts = refl

pub interface_written_parts : parts_have_spellings token_code samples true interface_written ≡ true
interface_written_parts = refl
