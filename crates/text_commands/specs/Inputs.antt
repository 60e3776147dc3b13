-- Inputs of a command, and what is read of them, one after another.
--
-- Each input has its turn: that it is absent or too long, then its own first fault. The first turn with a fault decides. The
-- contents say which bytes are read, and what is absent or too long.
use Rattle.std.specs.Prelude.{◌≡◌, ◌<◌, ◌≤◌, ◌⊎◌, ◌+◌, ℕ, List, length, Option, Some, None, Result, Ok, Err}
use Rattle.std.specs.FinMap as map
use Rattle.cam_base.specs.declared.error.Refused.{Refused}
use Rattle.cam_base.specs.declared.error.Refused.TheVariants as refused
use Rattle.cam_base.specs.declared.text_fault.TextCode.{TextCode}
use Rattle.cam_base.specs.declared.text_fault.TextCode.TheVariants.{NoFile, TooLong}
use Rattle.cam_io.specs.Causes.{Rose}
use Rattle.cam_io.specs.Contents.{Contents}
use Rattle.cam_io.specs.Reading.{HaveSameFront}
use Rattle.cam_base.specs.Gather.{IsIn}
use Rattle.text_commands.specs.declared.code.InputCode.TheVariants.{Text}
use Rattle.text_commands.specs.declared.fault.InputFault.{InputFault}
use Rattle.text_commands.specs.InputErrors.{InputError}
use Rattle.cam_base.specs.declared.error.Unread.TheVariants.{Fault, ReadFault, NoMemory}

-- the greatest number of bytes of an input
abbrev pub most_bytes : ℕ
most_bytes = 67108864

-- the fault of a whole input, with its file's name
abbrev pub of_file : TextCode → List ℕ → InputFault
of_file code name = record { code = Text code; first = 0; end = 0; name = name }

-- the contents have no such file
abbrev pub IsAbsent : Contents → List ℕ → Type 0
IsAbsent contents name = map.get contents name ≡ None

-- the contents have these bytes under the name
abbrev pub Holds : Contents → List ℕ → List ℕ → Type 0
Holds contents name bytes = map.get contents name ≡ Some bytes

-- the contents have more bytes under the name than an input may have
abbrev pub IsTooLong : Contents → List ℕ → Type 0
IsTooLong contents name = (bytes : List ℕ) × (map.get contents name ≡ Some bytes) × (most_bytes < length bytes)

-- both contents have the same input of this name, as far as it is read: up to the limit, and a byte more
abbrev pub AlikeAsRead : List ℕ → Contents → Contents → Type 0
AlikeAsRead name = HaveSameFront name (most_bytes + 1)

-- the same of each of these names
abbrev pub AlikeInInputs : List (List ℕ) → Contents → Contents → Type 0
AlikeInInputs names m n = (name : List ℕ) → IsIn name names → AlikeAsRead name m n

-- The bytes of an input of this name, or why there are none. A read fault comes only where the count of this name rose from
-- the one count to the other.
abbrev pub IsInput : Contents → (List ℕ → ℕ) → (List ℕ → ℕ) → List ℕ → Result (List ℕ) InputError → Type 0
IsInput contents before now name (Ok bytes) = (length bytes ≤ most_bytes) × Holds contents name bytes
IsInput contents before now name (Err (Fault fault file)) =
    (file ≡ name)
    × (((fault ≡ of_file NoFile name) × IsAbsent contents name) ⊎ ((fault ≡ of_file TooLong name) × IsTooLong contents name))
IsInput contents before now name (Err (ReadFault file)) = (file ≡ name) × Rose (before name) (now name)
IsInput contents before now name (Err NoMemory) = Unit {0}

-- What a reader answers, told of a file: what it read, or its refusal as a fault of the file.
abbrev pub IsTold : {A E : Type 0} → (E → InputFault) → List ℕ → (Result A (Refused E) → Type 0) → Result A InputError → Type 0
IsTold {E = E} tell file reads (Ok x) = reads (Ok x)
IsTold {E = E} tell file reads (Err (Fault fault f)) = (f ≡ file) × ((e : E) × reads (Err (refused.Fault e)) × (fault ≡ tell e))
IsTold tell file reads (Err (ReadFault f)) = ⊥
IsTold tell file reads (Err NoMemory) = Unit {0}

-- first one thing, and then, if it is there, the rest
abbrev pub Then : {A B : Type 0} → (Result A InputError → Type 0) → (A → Result B InputError → Type 0)
    → Result B InputError → Type 0
Then {A} first rest result = ((x : A) × first (Ok x) × rest x result) ⊎ ((e : InputError) × first (Err e) × (result ≡ Err e))

-- the turn of an input: its bytes, and then what a reader makes of them
abbrev pub Turn : {A E : Type 0} → Contents → (List ℕ → ℕ) → (List ℕ → ℕ) → (E → InputFault)
    → (List ℕ → Result A (Refused E) → Type 0) → List ℕ → Result A InputError → Type 0
Turn contents before now tell reads file = Then (IsInput contents before now file) (λ bytes. IsTold tell file (reads bytes))

-- an answer is what is said, unless memory ran out
abbrev pub Answers : {A : Type 0} → (A → Type 0) → Result A InputError → Type 0
Answers says (Ok x) = says x
Answers says (Err (Fault fault file)) = ⊥
Answers says (Err (ReadFault file)) = ⊥
Answers says (Err NoMemory) = Unit {0}

-- ---- errors

-- the error has this fault and this file, or memory ran out
abbrev pub IsErrorOf : InputFault → List ℕ → InputError → Type 0
IsErrorOf fault file (Fault f g) = (f ≡ fault) × (g ≡ file)
IsErrorOf fault file (ReadFault g) = ⊥
IsErrorOf fault file NoMemory = Unit {0}

-- the error is a failed read of this file, or memory ran out
abbrev pub IsReadFaultOf : List ℕ → InputError → Type 0
IsReadFaultOf file (Fault f g) = ⊥
IsReadFaultOf file (ReadFault g) = g ≡ file
IsReadFaultOf file NoMemory = Unit {0}

-- the error tells a refusal of a file
abbrev pub IsRefusalOf : {E : Type 0} → (E → InputFault) → List ℕ → Refused E → InputError → Type 0
IsRefusalOf tell file (refused.Fault e) error = IsErrorOf (tell e) file error
IsRefusalOf tell file refused.NoMemory error = error ≡ NoMemory

-- ---- answers that are refused, each refusal with the fault and the file that it is told as

-- the error is told of a refusal, or memory ran out
abbrev pub IsErrorFor : {R : Type 0} → (R → Option (InputFault × List ℕ)) → R → InputError → Type 0
IsErrorFor tell refusal (Fault fault file) = tell refusal ≡ Some (fault, file)
IsErrorFor tell refusal (ReadFault file) = ⊥
IsErrorFor tell refusal NoMemory = Unit {0}

-- an answer is accepted, and an error tells a refusal that comes, unless memory ran out
abbrev pub Decided : {A R : Type 0} → (R → Option (InputFault × List ℕ)) → (A → Type 0) → (R → Type 0)
    → Result A InputError → Type 0
Decided {R = R} tell accepts refuses (Ok x) = accepts x
Decided {R = R} tell accepts refuses (Err (Fault fault file)) = (r : R) × refuses r × (tell r ≡ Some (fault, file))
Decided tell accepts refuses (Err (ReadFault file)) = ⊥
Decided tell accepts refuses (Err NoMemory) = Unit {0}
