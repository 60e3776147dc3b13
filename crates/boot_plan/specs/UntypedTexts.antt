-- Texts of regions. The first line is `untypeds 1`, each other line is `untyped PADDR BITS` or `device PADDR BITS`.
use Rattle.std.specs.Prelude.{◌≡◌, ℕ, ◌+◌, nat_lt, Bool, true, false, if◌then◌else◌, List, [], ◌∷◌, codes, Option, Some, None, Result, Ok, Err}
use Rattle.std.specs.List.{filter_map}
use Rattle.std.specs.Str.{bytes_eq}
use Rattle.cam_base.specs.Numbers.{number_value}
use Rattle.cam_base.specs.declared.error.Refused.{Refused}
use Rattle.cam_base.specs.declared.error.Refused.TheVariants as refused
use Rattle.boot_plan.specs.Regions.{is_region}
use Rattle.boot_plan.specs.declared.untyped.Untyped.{Untyped}
use Rattle.boot_plan.specs.declared.untyped.UntypedCode.{UntypedCode}
use Rattle.boot_plan.specs.declared.untyped.UntypedCode.TheVariants.{Syntax, Limit}
use Rattle.boot_plan.specs.declared.untyped.UntypedFault.{UntypedFault}
use Rattle.cam_base.specs.AllThere.{of_two}
use Rattle.cam_base.specs.Fields.{fields}
use Rattle.cam_base.specs.Lines.{Line, lines, end_of}

-- the most regions of a text
abbrev pub regions_limit : ℕ
regions_limit = 4096

-- the letter and number, and the title of each code
abbrev pub word_of : UntypedCode → List ℕ
word_of Syntax = codes "U1"
word_of Limit = codes "U2"

abbrev pub title_of : UntypedCode → List ℕ
title_of Syntax = codes "Syntax"
title_of Limit = codes "Limit"

-- whether the word says memory of a device, none where it is neither word
abbrev pub device_of : List ℕ → Option Bool
device_of word = if bytes_eq word (codes "untyped") then Some false else if bytes_eq word (codes "device") then Some
    true else None

abbrev pub numbers_of : List ℕ → List ℕ → Option (ℕ × ℕ)
numbers_of paddr bits = of_two (λ paddr bits. (paddr, bits)) (number_value paddr) (number_value bits)

abbrev pub region_at : Bool → Option (ℕ × ℕ) → Option Untyped
region_at device None = None
region_at device (Some (paddr, bits)) =
    if is_region paddr bits then Some (record { paddr = paddr; bits = bits; device = device }) else None

abbrev pub region_in : Option Bool → Option (ℕ × ℕ) → Option Untyped
region_in None numbers = None
region_in (Some device) numbers = region_at device numbers

-- the region that fields spell
abbrev pub region_of : List (List ℕ) → Option Untyped
region_of (word ∷ paddr ∷ bits ∷ []) = region_in (device_of word) (numbers_of paddr bits)
region_of _ = None

abbrev pub fault : UntypedCode → ℕ → ℕ → UntypedFault
fault code first end = record { code = code; first = first; end = end }

abbrev pub fault_at : UntypedCode → Line → UntypedFault
fault_at code line = fault code line.first (end_of line)

-- what a line gives, where so many regions stand before it
abbrev pub judged : ℕ → Line → Option Untyped → Result Untyped UntypedFault
judged before line None = Err (fault_at Syntax line)
judged before line (Some region) = if nat_lt before regions_limit then Ok region else Err (fault_at Limit line)

abbrev pub line_given : ℕ → Line → Result Untyped UntypedFault
line_given before line = judged before line (region_of (fields line.text))

abbrev pub unless_bad : Result Untyped UntypedFault → Option UntypedFault → Option UntypedFault
unless_bad (Ok region) later = later
unless_bad (Err bad) later = Some bad

-- the first fault of lines, where so many regions stand before them
abbrev pub first_bad : ℕ → List Line → Option UntypedFault
first_bad before [] = None
first_bad before (line ∷ more) = unless_bad (line_given before line) (first_bad (before + 1) more)

abbrev pub fault_in : List Line → Option UntypedFault
fault_in [] = Some (fault Syntax 0 0)
fault_in (line ∷ more) = if bytes_eq line.text (codes "untypeds 1") then first_bad 0 more else Some (fault Syntax 0 0)

-- the first fault of a text
abbrev pub first_fault : List ℕ → Option UntypedFault
first_fault bytes = fault_in (lines bytes)

abbrev pub regions_in : List Line → List Untyped
regions_in = filter_map (λ line. region_of (fields line.text))

abbrev pub behind_first : List Line → List Line
behind_first [] = []
behind_first (line ∷ more) = more

-- the regions of a text
abbrev pub regions_of : List ℕ → List Untyped
regions_of bytes = regions_in (behind_first (lines bytes))

-- What a reader answers: the regions, where no fault stands, or the first fault, or that memory ran out.
abbrev pub AreRead : List Line → Result (List Untyped) (Refused UntypedFault) → Type 0
AreRead more (Ok regions) = (first_bad 0 more ≡ None) × (regions ≡ regions_in more)
AreRead more (Err (refused.Fault bad)) = first_bad 0 more ≡ Some bad
AreRead more (Err refused.NoMemory) = Unit {0}

abbrev pub IsRead : List ℕ → Result (List Untyped) (Refused UntypedFault) → Type 0
IsRead bytes (Ok regions) = (first_fault bytes ≡ None) × (regions ≡ regions_of bytes)
IsRead bytes (Err (refused.Fault bad)) = first_fault bytes ≡ Some bad
IsRead bytes (Err refused.NoMemory) = Unit {0}

-- the region of a line, or what is wrong with it, unless memory ran out
abbrev pub IsLineRead : ℕ → Line → Result Untyped (Refused UntypedFault) → Type 0
IsLineRead before line (Ok region) = line_given before line ≡ Ok region
IsLineRead before line (Err (refused.Fault bad)) = line_given before line ≡ Err bad
IsLineRead before line (Err refused.NoMemory) = Unit {0}
