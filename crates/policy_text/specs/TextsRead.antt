-- What the parts of reading answer.
use Rattle.std.specs.Prelude.{◌≡◌, ◌≤◌, ◌+◌, ℕ, ◌||◌, if◌then◌else◌, List, [], ◌∷◌, ◌++◌, count_by, Option, Some, None, Result, Ok, Err}
use Rattle.policy_text.specs.Below.{Line, Refused, TextFault}
use Rattle.policy_text.specs.Entries.{Entry}
use Rattle.policy_text.specs.EntriesRead.{told_lines}
use Rattle.policy_text.specs.KnownNumbers.{IsNear}
use Rattle.policy_text.specs.PolicyFaults.{Told, edges_limit, gives, is_edge}
use Rattle.policy_text.specs.PolicyTexts.{said, told, form_fault, has_label, IsFault}
use Rattle.policy_text.specs.WordSets.{has}
use Rattle.policy_text.specs.declared.kind.Kind.{Kind}
use Rattle.policy_text.specs.declared.read.Noted.{Noted}

-- there is no fault, or this one, unless memory ran out
abbrev pub FindsFault : Option TextFault → Result (Unit {0}) (Refused TextFault) → Type 0
FindsFault fault (Ok _) = fault ≡ None
FindsFault fault (Err refusal) = IsFault fault refusal

-- A line was taken in: its number where it is a label line, and counted where it is an edge line. The count is right up to the
-- most edges of a text.
pub record Notes (told : Told) (old new : Noted) : Type 0 where
  pub numbers : (n : List ℕ) → has new.numbers n ≡ (has old.numbers n || gives n told.1)
  pub edges : new.edges ≤ edges_limit → new.edges ≡ old.edges + (if is_edge told.1 then 1 else 0)
  pub near : IsNear old.near.items old.numbers → IsNear new.near.items new.numbers
  pub lines : told_lines new.lines.items ≡ told_lines old.lines.items ++ told ∷ []

-- a line was taken in, or says nothing
abbrev pub IsNoted : Kind → Line → Noted → Noted → Result (Unit {0}) (Refused TextFault) → Type 0
IsNoted kind line old new (Ok _) = (entry : Entry) × (said kind line ≡ Some entry) × Notes (line, entry) old new
IsNoted kind line old new (Err refusal) = IsFault (form_fault kind (line ∷ [])) refusal

-- what all lines say, the numbers of label lines and how many edge lines there are, or the first line that says nothing
abbrev pub AreNoted : Kind → List Line → Result Noted (Refused TextFault) → Type 0
AreNoted kind lines (Ok noted) =
    (form_fault kind lines ≡ None)
    × ((n : List ℕ) → has noted.numbers n ≡ has_label (told kind lines) n)
    × (noted.edges ≤ edges_limit → count_by (λ t. is_edge t.1) (told kind lines) ≡ noted.edges)
    × IsNear noted.near.items noted.numbers
    × (told_lines noted.lines.items ≡ told kind lines)
AreNoted kind lines (Err refusal) = IsFault (form_fault kind lines) refusal
