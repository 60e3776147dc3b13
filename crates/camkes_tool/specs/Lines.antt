-- The lines that are printed on standard error.
use Rattle.std.specs.Prelude.{ℕ, List, [], ◌∷◌, codes, decimal}
use Rattle.camkes_tool.specs.Below.{Fault, code_text, place_text, together}
use Rattle.cam_base.specs.Codes.{number_of, title_of}
use Rattle.cam_base.specs.Texts.{◌⊹◌}

-- `r.camkes:155-160: E10 Unknown Sever`
abbrev pub fault_line : List ℕ → Fault → List ℕ
fault_line file fault =
    place_text file fault.place.first fault.place.end
    ⊹ (codes "E" ⊹ code_text (decimal (number_of fault.code)) (title_of fault.code) fault.name)

abbrev pub read_fault_line : List ℕ → List ℕ
read_fault_line file = together (codes "read fault " ∷ file ∷ codes "\n" ∷ [])

abbrev pub no_memory_line : List ℕ
no_memory_line = codes "no memory\n"
