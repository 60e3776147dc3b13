-- Which tokens spell a tree, and which begin one. Brackets of values nest at most 32 deep in a tree; a beginning is one
-- at any depth.
use Rattle.std.specs.Prelude.{ℕ, List, [], ◌∷◌}
use Rattle.cam_base.specs.declared.token.Mark.TheVariants as marks
use Rattle.cam_base.specs.Spelling.{Spells, Begins}
use Rattle.cam_base.specs.Depth.{deep, Spelled, Begun}
use Rattle.cam_base.specs.Reading.{Reader, read, read_deep}
use Rattle.adl_ast.specs.declared.seen.Seen.{Seen}
use Rattle.adl_ast.specs.declared.value.Value.{Value}
use Rattle.adl_ast.specs.declared.file.File.{File}
use Rattle.adl_ast.specs.declared.composition.Composition.{Composition}
use Rattle.adl_ast.specs.declared.composition.Assembly.{Assembly}
use Rattle.adl_ast.specs.declared.configuration.Configuration.{Configuration}
use Rattle.adl_ast.specs.Codes.{token_code, mark_code}
use Rattle.adl_ast.specs.Forms.{Rule, nested_line, value_line, composition_line, configuration_line, assembly_line, file_line}

-- how deep brackets may nest
abbrev pub limit : ℕ
limit = 32

-- Writing the tree out by the rule gives exactly these tokens, and no bracket of it is the 33rd open one.
abbrev pub IsSpelledBy : {A : Type 0} → Rule A → A → List Seen → Type 0
IsSpelledBy f x ts = Spells token_code (deep token_code nested_line limit) f x ts

-- The same, however deep the brackets nest.
abbrev pub IsSpelledAtAnyDepth : {A : Type 0} → Rule A → A → List Seen → Type 0
IsSpelledAtAnyDepth f x ts = Spelled token_code nested_line f x ts

-- These tokens begin the rule, however deep the brackets nest.
abbrev pub IsBegun : {A : Type 0} → Rule A → List Seen → Type 0
IsBegun f ts = Begun token_code nested_line f ts

-- These tokens begin the rule, and brackets nest at most so deep.
abbrev pub IsBegunWithin : {A : Type 0} → ℕ → Rule A → List Seen → Type 0
IsBegunWithin n f ts = Begins token_code (deep token_code nested_line n) f ts

abbrev pub IsFileSpelled : File → List Seen → Type 0
IsFileSpelled file ts = IsSpelledBy file_line file ts

abbrev pub IsValueSpelled : Value → List Seen → Type 0
IsValueSpelled value ts = IsSpelledBy value_line value ts

abbrev pub IsCompositionSpelled : Composition → List Seen → Type 0
IsCompositionSpelled composition ts = IsSpelledBy composition_line composition ts

abbrev pub IsConfigurationSpelled : Configuration → List Seen → Type 0
IsConfigurationSpelled configuration ts = IsSpelledBy configuration_line configuration ts

abbrev pub IsAssemblySpelled : Assembly → List Seen → Type 0
IsAssemblySpelled assembly ts = IsSpelledBy assembly_line assembly ts

-- the codes of the brackets of values
abbrev pub opens : List ℕ
opens = mark_code marks.SquareL ∷ mark_code marks.BraceL ∷ []

-- the reader of a rule, where brackets may nest so much deeper
abbrev pub nests : {A : Type 0} → ℕ → Rule A → Reader Seen A
nests room f = read token_code opens (read_deep token_code nested_line opens room) f

-- the reader of a rule
abbrev pub reads : {A : Type 0} → Rule A → Reader Seen A
reads f = nests limit f
