-- What the steps of a turn answer.
use Rattle.std.specs.Prelude.{◌≡◌, ◌⊎◌, ℕ, List, [], ◌∷◌, length, slice_get, Option, None, Some, Result, Ok, Err}
use Rattle.adl_import.specs.Below.{Contents, Fault, File, IsFileIn, IsFileSpelled, IsFirstFault, IsUtf8, Lexes, Place, Refused, SourceError, SourceFile, Token, see}
use Rattle.cam_base.specs.declared.error.Refused.TheVariants as refused
use Rattle.adl_import.specs.Imports.{imports_of}
use Rattle.adl_import.specs.Sources.{Meeting, AlikeAsRead, IsFileOf}
use Rattle.adl_import.specs.Turns.{take_imports, IsReadFault, IsTurnFault}
use Rattle.cam_base.specs.declared.error.Unread.TheVariants as error

-- P holds of each item
abbrev pub Each : {X : Type 0} → (X → Type 0) → List X → Type 0
Each P [] = Unit {0}
Each P (x ∷ xs) = P x × Each P xs

-- the names are UTF-8
abbrev pub AreUtf8 : List Meeting → Type 0
AreUtf8 known = Each (λ m. IsUtf8 m.0) known

-- what is known after imports is as wanted, or the fault is the one that is wanted
abbrev pub IsTaken : Result (List Meeting) Fault → List Meeting → Result (Unit {0}) (Refused Fault) → Type 0
IsTaken want known (Ok u) = want ≡ Ok known
IsTaken want known (Err (refused.Fault f)) = want ≡ Err f
IsTaken want known (Err refused.NoMemory) = Unit {0}

-- the same, with the fault in the file of this name
abbrev pub IsTakenIn : Result (List Meeting) Fault → List ℕ → List Meeting → Result (Unit {0}) SourceError → Type 0
IsTakenIn want name known (Ok u) = want ≡ Ok known
IsTakenIn want name known (Err (error.Fault f in_file)) = (want ≡ Err f) × (in_file ≡ name)
IsTakenIn want name known (Err (error.ReadFault in_file)) = ⊥
IsTakenIn want name known (Err error.NoMemory) = Unit {0}

-- the tree spells the tokens of the bytes, or the fault is the first of lexing, or else that of parsing
abbrev pub IsTreeOf : ℕ → List ℕ → Result File (Refused Fault) → Type 0
IsTreeOf number bytes (Ok tree) = (tokens : List Token) × Lexes number bytes tokens × IsFileSpelled tree (see bytes tokens)
IsTreeOf number bytes (Err (refused.Fault f)) =
    IsFirstFault number bytes f ⊎ ((tokens : List Token) × Lexes number bytes tokens
    × IsFileIn bytes tokens (Err (refused.Fault f)))
IsTreeOf number bytes (Err refused.NoMemory) = Unit {0}

-- the file of this name and these bytes, or a fault in it
abbrev pub IsParsed : ℕ → List ℕ → List ℕ → Result SourceFile SourceError → Type 0
IsParsed number name bytes (Ok file) =
    (file.name ≡ name) × (file.bytes ≡ bytes) × ((tokens : List Token) × Lexes number bytes tokens
    × IsFileSpelled file.tree (see bytes tokens))
IsParsed number name bytes (Err (error.Fault f in_file)) =
    (in_file ≡ name) × (IsFirstFault number bytes f ⊎ ((tokens : List Token) × Lexes number bytes tokens
    × IsFileIn bytes tokens (Err (refused.Fault f))))
IsParsed number name bytes (Err (error.ReadFault in_file)) = ⊥
IsParsed number name bytes (Err error.NoMemory) = Unit {0}

-- the next file after these, or the fault of its reading, lexing and parsing
abbrev pub IsRead : Contents → List SourceFile → List ℕ → Place → Result SourceFile SourceError → Type 0
IsRead m files name place (Ok file) = (file.name ≡ name) × IsFileOf m (length files) file
IsRead m files name place (Err (error.Fault f in_file)) = IsReadFault m files name place f in_file
IsRead m files name place (Err (error.ReadFault in_file)) = in_file ≡ name
IsRead m files name place (Err error.NoMemory) = Unit {0}

-- both contents have the same file, as far as it is read, where one comes next after these
abbrev pub AlikeInNext : List SourceFile → List Meeting → Contents → Contents → Type 0
AlikeInNext files known m n =
    (name : List ℕ) (place : Place) → slice_get known (length files) ≡ Some (name, place) → AlikeAsRead name m n

-- The turn after these files: none is left; or the next file, and what is known after its imports; or the turn's fault.
abbrev pub IsTurn : Contents → List ℕ → List SourceFile → List Meeting → List Meeting
    → Result (Option SourceFile) SourceError → Type 0
IsTurn m root files known after (Ok None) = (slice_get known (length files) ≡ None) × (after ≡ known)
IsTurn m root files known after (Ok (Some file)) =
    (place : Place) × (slice_get known (length files) ≡ Some (file.name, place)) × IsFileOf m (length files) file
    × (take_imports root file.name known (imports_of file.tree) ≡ Ok after)
IsTurn m root files known after (Err (error.Fault f in_file)) =
    (name : List ℕ) × (place : Place) × (slice_get known (length files) ≡ Some (name, place)) × IsTurnFault m root files known
    name place f in_file
IsTurn m root files known after (Err (error.ReadFault name)) = (place : Place)
    × (slice_get known (length files) ≡ Some (name, place))
IsTurn m root files known after (Err error.NoMemory) = Unit {0}
