-- The 29 words that can't be names, each with its keyword.
use Rattle.std.specs.List.{All, Contains}
use Rattle.std.specs.Prelude.{◌≡◌, ◌≢◌, ℕ, if◌then◌else◌, List, [], ◌∷◌, Option, Some, None, codes}
use Rattle.std.specs.Str.{bytes_eq}
use Rattle.cam_base.specs.declared.token.Keyword.{Keyword}
use Rattle.cam_base.specs.declared.token.Keyword.TheVariants as keys

-- the word of a keyword
abbrev pub spelling : Keyword → List ℕ
spelling keys.KAssembly = codes "assembly"
spelling keys.KAttribute = codes "attribute"
spelling keys.KBinarySemaphore = codes "binary_semaphore"
spelling keys.KComponent = codes "component"
spelling keys.KComposition = codes "composition"
spelling keys.KConfiguration = codes "configuration"
spelling keys.KConnection = codes "connection"
spelling keys.KConsumes = codes "consumes"
spelling keys.KControl = codes "control"
spelling keys.KDataport = codes "dataport"
spelling keys.KEmits = codes "emits"
spelling keys.KExport = codes "export"
spelling keys.KFrom = codes "from"
spelling keys.KGroup = codes "group"
spelling keys.KHardware = codes "hardware"
spelling keys.KHas = codes "has"
spelling keys.KImport = codes "import"
spelling keys.KIn = codes "in"
spelling keys.KInclude = codes "include"
spelling keys.KInout = codes "inout"
spelling keys.KMaybe = codes "maybe"
spelling keys.KMutex = codes "mutex"
spelling keys.KOut = codes "out"
spelling keys.KProcedure = codes "procedure"
spelling keys.KProvides = codes "provides"
spelling keys.KRefin = codes "refin"
spelling keys.KSemaphore = codes "semaphore"
spelling keys.KTo = codes "to"
spelling keys.KUses = codes "uses"

abbrev pub all_keywords : List Keyword
all_keywords =
    keys.KAssembly
    ∷ keys.KAttribute
    ∷ keys.KBinarySemaphore
    ∷ keys.KComponent
    ∷ keys.KComposition
    ∷ keys.KConfiguration
    ∷ keys.KConnection
    ∷ keys.KConsumes
    ∷ keys.KControl
    ∷ keys.KDataport
    ∷ keys.KEmits
    ∷ keys.KExport
    ∷ keys.KFrom
    ∷ keys.KGroup
    ∷ keys.KHardware
    ∷ keys.KHas
    ∷ keys.KImport
    ∷ keys.KIn
    ∷ keys.KInclude
    ∷ keys.KInout
    ∷ keys.KMaybe
    ∷ keys.KMutex
    ∷ keys.KOut
    ∷ keys.KProcedure
    ∷ keys.KProvides
    ∷ keys.KRefin
    ∷ keys.KSemaphore
    ∷ keys.KTo
    ∷ keys.KUses
    ∷ []

-- the first of these keywords that has this word
abbrev pub named_by : List Keyword → List ℕ → Option Keyword
named_by [] word = None
named_by (k ∷ ks) word = if bytes_eq (spelling k) word then Some k else named_by ks word

-- the keyword that a word is
unfoldable pub keyword_of : List ℕ → Option Keyword
keyword_of word = named_by all_keywords word

-- what a table of these rows answers to a word: the row that has it, and none exactly where no row has it
abbrev pub IsRowOf : List Keyword → List ℕ → Option Keyword → Type 0
IsRowOf rows word None = All (λ k. word ≢ spelling k) rows
IsRowOf rows word (Some k) = Contains rows k × (word ≡ spelling k)
