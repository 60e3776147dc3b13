-- The lines that are printed where nothing is shown.
use Rattle.std.specs.Prelude.{ℕ, List, [], ◌∷◌, codes, decimal}
use Rattle.view_tool.specs.Below.{Fault, TextFault, together}
use Rattle.cam_base.specs.Codes.{number_of, title_of}
use Rattle.cam_base.specs.TextCodes as texts

abbrev pub usage : List ℕ
usage = together (
    codes "usage: camkes_view fault [LINE] | lint ROOT | graph POLICY | picture ROOT | overview ROOT | reasons ROOT"
    ∷ codes " | table ROOT LABEL | page ROOT | flow POLICY FROM TO | flows POLICY\n" ∷ [])

abbrev pub no_flow : List ℕ
no_flow = codes "no flow\n"

abbrev pub no_memory : List ℕ
no_memory = codes "no memory\n"

-- for words behind `fault` that are no line of a fault
abbrev pub no_line : List ℕ
no_line = codes "no line of a fault\n"

-- `a.camkes: no such file`
abbrev pub refusal : List ℕ → List ℕ → List ℕ
refusal what why = together (what ∷ codes ": " ∷ why ∷ codes "\n" ∷ [])

abbrev pub read_fault : List ℕ → List ℕ
read_fault file = together (codes "read fault " ∷ file ∷ codes "\n" ∷ [])

-- a space in front of a name that isn't empty
abbrev pub space_before : List ℕ → List ℕ
space_before [] = []
space_before (b ∷ bs) = codes " "

-- `FILE:FIRST-END: REST`
abbrev pub place_line : List ℕ → ℕ → ℕ → List ℕ → List ℕ
place_line file first end rest = together (
    file ∷ codes ":" ∷ decimal first ∷ codes "-" ∷ decimal end ∷ codes ": " ∷ rest ∷ codes "\n" ∷ [])

-- `Q2 LabelTwice 4`
abbrev pub words : List ℕ → List ℕ → List ℕ → List ℕ
words code title name = together (code ∷ codes " " ∷ title ∷ space_before name ∷ name ∷ [])

-- of a fault of a text
abbrev pub text_fault_line : List ℕ → TextFault → List ℕ
text_fault_line file f = place_line file f.first f.end (words (texts.word_of f.code) (texts.title_of f.code) f.name)

-- of a fault of a source
abbrev pub fault_words : Fault → List ℕ
fault_words f = words (together (codes "E" ∷ decimal (number_of f.code) ∷ [])) (title_of f.code) f.name

abbrev pub fault_line : List ℕ → Fault → List ℕ
fault_line file f = place_line file f.place.first f.place.end (fault_words f)
