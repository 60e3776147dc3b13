-- The grammar of the architecture language, line by line, each with what it means. A line is written so that the next
-- token decides how it goes on; where it could be written more plainly, specs/Written.antt has the plain line.
use Rattle.std.specs.Prelude.{ℕ, Bool, true, false, List, [], ◌∷◌, ◌++◌, Option, Some, None}
use Rattle.cam_base.specs.declared.place.Place.{Place}
use Rattle.cam_base.specs.declared.token.Keyword.{Keyword}
use Rattle.cam_base.specs.declared.token.Keyword.TheVariants as keys
use Rattle.cam_base.specs.declared.token.Mark.{Mark}
use Rattle.cam_base.specs.declared.token.Mark.TheVariants as marks
use Rattle.cam_base.specs.Form.{Form, Give, One, Then, Or, Many, As, Starts, Nested, token, maybe, behind, separated}
use Rattle.adl_ast.specs.Codes.{word_codes, not_void_codes, not_buf_codes, void_code, buf_code, number_code, text_code, angle_code, mark_code, key_code}
use Rattle.adl_ast.specs.Seeing.{id_of, number_of, span}
use Rattle.cam_base.specs.Quoted.{inner}
use Rattle.adl_ast.specs.declared.seen.Seen.{Seen}
use Rattle.adl_ast.specs.declared.id.Id.{Id}
use Rattle.adl_ast.specs.declared.value.Value.{Value}
use Rattle.adl_ast.specs.declared.value.ValueKind.TheVariants as values
use Rattle.adl_ast.specs.declared.file.File.{File}
use Rattle.adl_ast.specs.declared.file.Ended.{Ended}
use Rattle.adl_ast.specs.declared.file.Item.{Item}
use Rattle.adl_ast.specs.declared.file.Item.TheVariants as items
use Rattle.adl_ast.specs.declared.file.Import.{Import}
use Rattle.adl_ast.specs.declared.procedure.Procedure.{Procedure}
use Rattle.adl_ast.specs.declared.procedure.ProcMember.{ProcMember}
use Rattle.adl_ast.specs.declared.procedure.ProcMember.TheVariants as parts
use Rattle.adl_ast.specs.declared.procedure.Method.{Method}
use Rattle.adl_ast.specs.declared.procedure.Direction.{Direction}
use Rattle.adl_ast.specs.declared.procedure.Direction.TheVariants as directions
use Rattle.adl_ast.specs.declared.procedure.Param.{Param}
use Rattle.adl_ast.specs.declared.component.Component.{Component}
use Rattle.adl_ast.specs.declared.component.Member.{Member}
use Rattle.adl_ast.specs.declared.component.Member.TheVariants as members
use Rattle.adl_ast.specs.declared.component.Interface.{Interface}
use Rattle.adl_ast.specs.declared.component.InterfaceKind.{InterfaceKind}
use Rattle.adl_ast.specs.declared.component.InterfaceKind.TheVariants as interfaces
use Rattle.adl_ast.specs.declared.component.Attribute.{Attribute}
use Rattle.adl_ast.specs.declared.component.Lock.{Lock}
use Rattle.adl_ast.specs.declared.component.LockKind.{LockKind}
use Rattle.adl_ast.specs.declared.component.LockKind.TheVariants as locks
use Rattle.adl_ast.specs.declared.composition.Composition.{Composition}
use Rattle.adl_ast.specs.declared.composition.Line.{Line}
use Rattle.adl_ast.specs.declared.composition.Line.TheVariants as lines
use Rattle.adl_ast.specs.declared.composition.Instance.{Instance}
use Rattle.adl_ast.specs.declared.composition.Group.{Group}
use Rattle.adl_ast.specs.declared.composition.Role.{Role}
use Rattle.adl_ast.specs.declared.composition.Role.TheVariants as roles
use Rattle.adl_ast.specs.declared.composition.End.{End}
use Rattle.adl_ast.specs.declared.composition.Connection.{Connection}
use Rattle.adl_ast.specs.declared.composition.Export.{Export}
use Rattle.adl_ast.specs.declared.composition.Assembly.{Assembly}
use Rattle.adl_ast.specs.declared.configuration.Configuration.{Configuration}
use Rattle.adl_ast.specs.declared.configuration.Setting.{Setting}
use Rattle.adl_ast.specs.declared.configuration.Setter.{Setter}
use Rattle.adl_ast.specs.declared.configuration.Setter.TheVariants as setters

-- A part of the grammar that means an A. What nests is a bracketed value.
abbrev pub Rule : Type 0 → Type 1
Rule A = Form Seen Value A

-- ---- tokens

abbrev pub key : Keyword → Rule Seen
key k = token (key_code k)

abbrev pub mark : Mark → Rule Seen
mark m = token (mark_code m)

-- WORD
abbrev pub word : Rule Id
word = As id_of (One word_codes)

-- one or more, with commas between
abbrev pub commas : {A : Type 0} → Rule A → Rule (List A)
commas f = separated (mark_code marks.Comma) f

-- a keyword that means something
abbrev pub says : {A : Type 0} → Keyword → A → Rule A
says k x = As (λ t. x) (key k)

-- ['[' ']'], which means whether it stands there
abbrev pub brackets : Rule Bool
brackets = Or (As (λ x. true) (Then (mark marks.SquareL) (mark marks.SquareR))) (Give false)

-- ---- values

abbrev pub number_form : Rule Value
number_form = As (λ t. record { kind = values.Number (number_of t.kind); place = t.place }) (token number_code)

abbrev pub text_form : Rule Value
text_form = As (λ t. record { kind = values.Text (inner t.text); place = t.place }) (token text_code)

-- value = NUMBER | TEXT | '[' [value,+] ']' | '{' [(TEXT ':' value),+] '}', where the last two are what nests
unfoldable pub value_line : Rule Value
value_line = Or Nested (Or number_form text_form)

abbrev pub value_form : Rule Value
value_form = Starts (mark_code marks.SquareL ∷ mark_code marks.BraceL ∷ number_code ∷ text_code ∷ []) value_line

-- [value,+]
unfoldable pub values_line : Rule (List Value)
values_line = Or (commas value_form) (Give [])

-- '[' [value,+] ']'
unfoldable pub list_line : Rule Value
list_line = As (λ x. record { kind = values.Items x.1.0; place = span x.0.place x.1.1.place })
    (Then (mark marks.SquareL) (Then values_line (mark marks.SquareR)))

-- TEXT ':' value
unfoldable pub entry_line : Rule (List ℕ × Value)
entry_line = As (λ x. (inner x.0.text, x.1.1)) (Then (token text_code) (Then (mark marks.Colon) value_form))

abbrev pub entry_form : Rule (List ℕ × Value)
entry_form = Starts (text_code ∷ []) entry_line

-- [(TEXT ':' value),+]
unfoldable pub entries_line : Rule (List (List ℕ × Value))
entries_line = Or (commas entry_form) (Give [])

-- '{' [(TEXT ':' value),+] '}'
unfoldable pub dictionary_line : Rule Value
dictionary_line = As (λ x. record { kind = values.Dictionary x.1.0; place = span x.0.place x.1.1.place })
    (Then (mark marks.BraceL) (Then entries_line (mark marks.BraceR)))

-- a value in brackets: what may stand within itself
unfoldable pub nested_line : Rule Value
nested_line = Or (Starts (mark_code marks.SquareL ∷ []) list_line) (Starts (mark_code marks.BraceL ∷ []) dictionary_line)

-- ---- typed names: type WORD, where type = WORD | WORD WORD | WORD WORD WORD

-- the words behind the first of a type and a name: one to three
abbrev pub More : Type 0
More = Id × Option (Id × Option Id)

abbrev pub more_words : Rule More
more_words = Then word (maybe (Then word (maybe word)))

-- the words of the type, and the name, which is the last word
abbrev pub typed_of : Id → More → List (List ℕ) × Id
typed_of a (b, None) = (a.name ∷ [], b)
typed_of a (b, Some (c, None)) = (a.name ∷ b.name ∷ [], c)
typed_of a (b, Some (c, Some d)) = (a.name ∷ b.name ∷ c.name ∷ [], d)

-- type WORD, which is typed_written of specs/Written.antt: one word, and one to three more of which the last is the name
unfoldable pub typed_line : Rule (List (List ℕ) × Id)
typed_line = As (λ x. typed_of x.0 x.1) (Then word more_words)

abbrev pub typed_form : Rule (List (List ℕ) × Id)
typed_form = Starts word_codes typed_line

-- ---- procedures

-- ('import' or 'include') (TEXT | ANGLE) ';'
abbrev pub path_form : Rule Import
path_form = Or (As (λ t. record { path = inner t.text; angle = false; place = t.place }) (token text_code))
    (As (λ t. record { path = inner t.text; angle = true; place = t.place }) (token angle_code))

unfoldable pub import_line : Keyword → Rule Import
import_line k = As (λ x. x.1.0) (Then (key k) (Then path_form (mark marks.Semi)))

-- import = 'import' (TEXT | ANGLE) ';'
abbrev pub import_form : Rule Import
import_form = Starts (key_code keys.KImport ∷ []) (import_line keys.KImport)

-- include = 'include' (TEXT | ANGLE) ';'
abbrev pub include_form : Rule Import
include_form = Starts (key_code keys.KInclude ∷ []) (import_line keys.KInclude)

-- 'in' | 'out' | 'inout' | 'refin'
unfoldable pub direction_line : Rule Direction
direction_line =
    Or (says keys.KIn directions.DirIn)
    (Or (says keys.KOut directions.DirOut) (Or (says keys.KInout directions.DirInOut) (says keys.KRefin directions.DirRefIn)))

abbrev pub direction_codes : List ℕ
direction_codes = key_code keys.KIn ∷ key_code keys.KOut ∷ key_code keys.KInout ∷ key_code keys.KRefin ∷ []

abbrev pub direction_form : Rule Direction
direction_form = Starts direction_codes direction_line

abbrev pub param_of : Option Direction → List (List ℕ) × Id → Bool → Param
param_of d typed array = record { direction = d; words = typed.0; id = typed.1; array = array }

-- param = ['in' | 'out' | 'inout' | 'refin'] type WORD ['[' ']']
unfoldable pub param_line : Rule Param
param_line = As (λ x. param_of x.0 x.1.0 x.1.1) (Then (maybe direction_form) (Then typed_form brackets))

abbrev pub param_codes : List ℕ
param_codes = direction_codes ++ word_codes

abbrev pub param_form : Rule Param
param_form = Starts param_codes param_line

abbrev pub more_params : Rule (List Param)
more_params = Many (behind (mark_code marks.Comma) param_form)

-- what stands between the parentheses of a method: whether it is void alone, and the parameters
abbrev pub Params : Type 0
Params = Bool × List Param

-- the parameters that begin with the word void, or that word alone
abbrev pub void_params_of : Id → Option (More × (Bool × List Param)) → Params
void_params_of v None = (true, [])
void_params_of v (Some (more, (array, ps))) = (false, param_of None (typed_of v more) array ∷ ps)

-- what begins with the word void: that word alone, or a first parameter whose type begins with it, and those behind it
unfoldable pub void_params_line : Rule Params
void_params_line =
    As (λ x. void_params_of (id_of x.0) x.1) (Then (token void_code) (maybe (Then more_words (Then brackets more_params))))

-- a first parameter with a direction
unfoldable pub directed_line : Rule Param
directed_line = As (λ x. param_of (Some x.0) x.1.0 x.1.1) (Then direction_form (Then typed_form brackets))

-- a first parameter without one, whose type doesn't begin with the word void
unfoldable pub undirected_line : Rule Param
undirected_line = As (λ x. param_of None (typed_of (id_of x.0) x.1.0) x.1.1)
    (Then (One not_void_codes) (Then more_words brackets))

-- a first parameter that doesn't begin with the word void
abbrev pub first_param : Rule Param
first_param = Or (Starts direction_codes directed_line) (Starts not_void_codes undirected_line)

-- a first parameter and those behind it
unfoldable pub other_params_line : Rule Params
other_params_line = As (λ x. (false, x.0 ∷ x.1)) (Then first_param more_params)

-- ['void' | param,+], which is params_written of specs/Written.antt: decided by whether the next token is the word void
unfoldable pub params_line : Rule Params
params_line = Or (Starts (void_code ∷ []) void_params_line) (Or (Starts (direction_codes ++ not_void_codes) other_params_line)
    (Give (false, [])))

-- method = type WORD '(' ['void' | param,+] ')' ';'
unfoldable pub method_line : Rule Method
method_line = As (λ x. record { result = x.0.0; id = x.0.1; void = x.1.1.0.0; params = x.1.1.0.1 })
    (Then typed_form (Then (mark marks.ParenL) (Then params_line (Then (mark marks.ParenR) (mark marks.Semi)))))

unfoldable pub proc_member_line : Rule ProcMember
proc_member_line = Or (As parts.Include include_form) (As parts.Method (Starts word_codes method_line))

abbrev pub proc_member_form : Rule ProcMember
proc_member_form = Starts (key_code keys.KInclude ∷ word_codes) proc_member_line

-- procedure = 'procedure' WORD '{' (include | method)* '}'
unfoldable pub procedure_line : Rule Procedure
procedure_line = As (λ x. record { id = x.1.0; members = x.1.1.1.0 })
    (Then (key keys.KProcedure) (Then word (Then (mark marks.BraceL) (Then (Many proc_member_form) (mark marks.BraceR)))))

-- ---- compositions

-- instance = 'component' WORD WORD ';'
unfoldable pub instance_line : Rule Instance
instance_line = As (λ x. record { component = x.1.0; id = x.1.1.0 })
    (Then (key keys.KComponent) (Then word (Then word (mark marks.Semi))))

abbrev pub instance_form : Rule Instance
instance_form = Starts (key_code keys.KComponent ∷ []) instance_line

-- 'group' WORD '{' instance* '}'
unfoldable pub group_line : Rule Group
group_line = As (λ x. record { id = x.1.0; instances = x.1.1.1.0 })
    (Then (key keys.KGroup) (Then word (Then (mark marks.BraceL) (Then (Many instance_form) (mark marks.BraceR)))))

-- words of a dotted name, and its place
abbrev pub Dotted : Type 0
Dotted = List Id × Place

abbrev pub dotted_of : Id → Id → Option Id → Dotted
dotted_of a b None = (a ∷ b ∷ [], span a.place b.place)
dotted_of a b (Some c) = (a ∷ b ∷ c ∷ [], span a.place c.place)

-- '.' WORD
abbrev pub dot_word : Rule Id
dot_word = behind (mark_code marks.Dot) word

-- dotted = WORD '.' WORD ['.' WORD]
unfoldable pub dotted_line : Rule Dotted
dotted_line = As (λ x. dotted_of x.0 x.1.0 x.1.1) (Then word (Then dot_word (maybe dot_word)))

abbrev pub dotted_form : Rule Dotted
dotted_form = Starts word_codes dotted_line

abbrev pub role_form : Rule Role
role_form = Or (says keys.KFrom roles.From) (says keys.KTo roles.To)

-- end = ('from' | 'to') dotted
unfoldable pub end_line : Rule End
end_line = As (λ x. record { role = x.0; words = x.1.0; place = x.1.1 }) (Then role_form dotted_form)

abbrev pub end_form : Rule End
end_form = Starts (key_code keys.KFrom ∷ key_code keys.KTo ∷ []) end_line

-- 'connection' WORD WORD '(' end,+ ')' ';'
unfoldable pub connection_line : Rule Connection
connection_line =
    As (λ x. record { connector = x.1.0; id = x.1.1.0; ends = x.1.1.1.1.0 })
    (Then (key keys.KConnection)
    (Then word
    (Then word (Then (mark marks.ParenL) (Then (commas end_form) (Then (mark marks.ParenR) (mark marks.Semi)))))))

-- 'export' dotted '->' WORD ';'
unfoldable pub export_line : Rule Export
export_line = As (λ x. record { words = x.1.0.0; target = x.1.1.1.0; place = x.1.0.1 })
    (Then (key keys.KExport) (Then dotted_form (Then (mark marks.Arrow) (Then word (mark marks.Semi)))))

-- line = instance | 'group' .. | 'connection' .. | 'export' ..
unfoldable pub composition_member_line : Rule Line
composition_member_line =
    Or (As lines.Instance instance_form)
    (Or (As lines.Group (Starts (key_code keys.KGroup ∷ []) group_line))
    (Or (As lines.Connection (Starts (key_code keys.KConnection ∷ []) connection_line))
    (As lines.Export (Starts (key_code keys.KExport ∷ []) export_line))))

abbrev pub composition_member_form : Rule Line
composition_member_form = Starts (key_code keys.KComponent ∷ key_code keys.KGroup ∷ key_code keys.KConnection
    ∷ key_code keys.KExport ∷ []) composition_member_line

-- composition = 'composition' '{' line* '}'
unfoldable pub composition_line : Rule Composition
composition_line = As (λ x. record { place = x.0.place; lines = x.1.1.0 })
    (Then (key keys.KComposition) (Then (mark marks.BraceL) (Then (Many composition_member_form) (mark marks.BraceR))))

abbrev pub composition_form : Rule Composition
composition_form = Starts (key_code keys.KComposition ∷ []) composition_line

-- ---- configurations

-- the place of the last of these words, or of the first where there is none
abbrev pub last_place : Place → List Id → Place
last_place p [] = p
last_place p (a ∷ more) = last_place a.place more

-- WORD ('.' WORD)+
unfoldable pub path_line : Rule Dotted
path_line = As (λ x. (x.0 ∷ x.1.0 ∷ x.1.1, span x.0.place (last_place x.1.0.place x.1.1)))
    (Then word (Then dot_word (Many dot_word)))

-- '=' value | '<-' WORD
unfoldable pub setter_line : Rule Setter
setter_line = Or (As setters.Literal (behind (mark_code marks.Equals) value_form))
    (As setters.Reference (behind (mark_code marks.Back) word))

-- setting = WORD ('.' WORD)+ ('=' value | '<-' WORD) ';'
unfoldable pub setting_line : Rule Setting
setting_line = As (λ x. record { words = x.0.0; setter = x.1.0; place = x.0.1 })
    (Then (Starts word_codes path_line) (Then (Starts (mark_code marks.Equals ∷ mark_code marks.Back ∷ []) setter_line)
    (mark marks.Semi)))

abbrev pub setting_form : Rule Setting
setting_form = Starts word_codes setting_line

-- configuration = 'configuration' '{' setting* '}'
unfoldable pub configuration_line : Rule Configuration
configuration_line = As (λ x. record { place = x.0.place; settings = x.1.1.0 })
    (Then (key keys.KConfiguration) (Then (mark marks.BraceL) (Then (Many setting_form) (mark marks.BraceR))))

abbrev pub configuration_form : Rule Configuration
configuration_form = Starts (key_code keys.KConfiguration ∷ []) configuration_line

-- assembly = 'assembly' [WORD] '{' composition [configuration] '}'
unfoldable pub assembly_line : Rule Assembly
assembly_line =
    As (λ x. record { place = x.0.place; id = x.1.0; composition = x.1.1.1.0; configuration = x.1.1.1.1.0 })
    (Then (key keys.KAssembly)
    (Then (maybe word)
    (Then (mark marks.BraceL) (Then composition_form (Then (maybe configuration_form) (mark marks.BraceR))))))

abbrev pub assembly_form : Rule Assembly
assembly_form = Starts (key_code keys.KAssembly ∷ []) assembly_line

-- ---- components

-- the kind, the word, the size and the name of an interface
abbrev pub Port : Type 0
Port = InterfaceKind × (Id × (Option ℕ × Id))

abbrev pub interface_of : Bool → Port → Interface
interface_of m p = record { maybe = m; kind = p.0; word = p.1.0; size = p.1.1.0; id = p.1.1.1 }

-- 'uses' | 'provides' | 'emits' | 'consumes'
abbrev pub interface_kind : Rule InterfaceKind
interface_kind =
    Or (says keys.KUses interfaces.Uses) (Or (says keys.KProvides interfaces.Provides)
    (Or (says keys.KEmits interfaces.Emits) (says keys.KConsumes interfaces.Consumes)))

abbrev pub interface_kind_codes : List ℕ
interface_kind_codes = key_code keys.KUses ∷ key_code keys.KProvides ∷ key_code keys.KEmits ∷ key_code keys.KConsumes ∷ []

-- ('uses' | 'provides' | 'emits' | 'consumes') WORD WORD
unfoldable pub plain_port_line : Rule Port
plain_port_line = As (λ x. (x.0, (x.1.0, (None, x.1.1)))) (Then (Starts interface_kind_codes interface_kind) (Then word word))

-- '(' NUMBER ')'
abbrev pub size_form : Rule ℕ
size_form = As (λ x. number_of x.1.0.kind) (Then (mark marks.ParenL) (Then (token number_code) (mark marks.ParenR)))

-- Buf, ['(' NUMBER ')'], WORD
unfoldable pub buf_line : Rule (Id × (Option ℕ × Id))
buf_line = As (λ x. (id_of x.0, (x.1.0, x.1.1))) (Then (token buf_code) (Then (maybe size_form) word))

-- another WORD, and WORD
unfoldable pub data_line : Rule (Id × (Option ℕ × Id))
data_line = As (λ x. (id_of x.0, (None, x.1))) (Then (One not_buf_codes) word)

-- 'dataport' (WORD WORD | 'Buf' '(' NUMBER ')' WORD)
unfoldable pub dataport_line : Rule Port
dataport_line =
    As (λ x. (interfaces.Dataport, x))
    (behind (key_code keys.KDataport) (Or (Starts (buf_code ∷ []) buf_line) (Starts not_buf_codes data_line)))

abbrev pub interface_codes : List ℕ
interface_codes = key_code keys.KMaybe ∷ (interface_kind_codes ++ (key_code keys.KDataport ∷ []))

-- ['maybe'], whether it stands there
abbrev pub maybe_word : Rule Bool
maybe_word = Or (As (λ t. true) (key keys.KMaybe)) (Give false)

-- ['maybe'] one of the two ';', which is interface_written of specs/Written.antt
unfoldable pub interface_line : Rule Interface
interface_line =
    As (λ x. interface_of x.0 x.1.0)
    (Then maybe_word
    (Then (Or (Starts interface_kind_codes plain_port_line) (Starts (key_code keys.KDataport ∷ []) dataport_line))
    (mark marks.Semi)))

-- 'attribute' type WORD ['[' ']'] ['=' value] ';'
unfoldable pub attribute_line : Rule Attribute
attribute_line =
    As (λ x. record { words = x.1.0.0; id = x.1.0.1; array = x.1.1.0; value = x.1.1.1.0 })
    (Then (key keys.KAttribute)
    (Then typed_form (Then brackets (Then (maybe (behind (mark_code marks.Equals) value_form)) (mark marks.Semi)))))

-- 'mutex' | 'semaphore' | 'binary_semaphore'
abbrev pub lock_kind : Rule LockKind
lock_kind =
    Or (says keys.KMutex locks.Mutex) (Or (says keys.KSemaphore locks.Semaphore)
    (says keys.KBinarySemaphore locks.BinarySemaphore))

-- 'has' ('mutex' | 'semaphore' | 'binary_semaphore') WORD ';'
unfoldable pub lock_line : Rule Lock
lock_line = As (λ x. record { kind = x.1.0; id = x.1.1.0 }) (Then (key keys.KHas) (Then lock_kind (Then word (mark marks.Semi))))

-- 'control' ';' and 'hardware' ';', which mean the place of the keyword
unfoldable pub flag_line : Keyword → Rule Place
flag_line k = As (λ x. x.0.place) (Then (key k) (mark marks.Semi))

-- member = 'control' ';' | 'hardware' ';' | include | an interface | 'attribute' .. | 'has' .. | composition | configuration
unfoldable pub member_line : Rule Member
member_line =
    Or (As members.Control (Starts (key_code keys.KControl ∷ []) (flag_line keys.KControl)))
    (Or (As members.Hardware (Starts (key_code keys.KHardware ∷ []) (flag_line keys.KHardware)))
    (Or (As members.Include include_form)
    (Or (As members.Interface (Starts interface_codes interface_line))
    (Or (As members.Attribute (Starts (key_code keys.KAttribute ∷ []) attribute_line))
    (Or (As members.Lock (Starts (key_code keys.KHas ∷ []) lock_line))
    (Or (As members.Composition composition_form)
    (As members.Configuration configuration_form)))))))

abbrev pub member_codes : List ℕ
member_codes =
    key_code keys.KControl ∷ key_code keys.KHardware ∷ key_code keys.KInclude
    ∷ (interface_codes ++ (key_code keys.KAttribute ∷ key_code keys.KHas ∷ key_code keys.KComposition
    ∷ key_code keys.KConfiguration ∷ []))

abbrev pub member_form : Rule Member
member_form = Starts member_codes member_line

-- component = 'component' WORD '{' member* '}'
unfoldable pub component_line : Rule Component
component_line = As (λ x. record { id = x.1.0; members = x.1.1.1.0 })
    (Then (key keys.KComponent) (Then word (Then (mark marks.BraceL) (Then (Many member_form) (mark marks.BraceR)))))

-- ---- files

-- item = import | procedure | component | assembly
unfoldable pub item_line : Rule Item
item_line =
    Or (As items.Import import_form)
    (Or (As items.Procedure (Starts (key_code keys.KProcedure ∷ []) procedure_line))
    (Or (As items.Component (Starts (key_code keys.KComponent ∷ []) component_line))
    (As items.Assembly assembly_form)))

abbrev pub item_codes : List ℕ
item_codes = key_code keys.KImport ∷ key_code keys.KProcedure ∷ key_code keys.KComponent ∷ key_code keys.KAssembly ∷ []

-- item [';']
unfoldable pub ended_line : Rule Ended
ended_line = As (λ x. record { item = x.0; semicolon = x.1 })
    (Then (Starts item_codes item_line) (Or (As (λ t. true) (mark marks.Semi)) (Give false)))

abbrev pub ended_form : Rule Ended
ended_form = Starts item_codes ended_line

-- file = (item [';'])*
unfoldable pub file_line : Rule File
file_line = As (λ items. record { items = items }) (Many ended_form)
