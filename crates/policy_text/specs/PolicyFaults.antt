-- What is wrong with the lines of a policy or a certificate, each in its turn.
use Rattle.std.specs.Prelude.{ℕ, ◌+◌, Bool, true, false, not, ◌&&◌, ◌||◌, if◌then◌else◌, nat_le, nat_lt, List, [], ◌∷◌, ◌++◌, length, count_by, Option, Some, None}
use Rattle.policy_text.specs.Below.{LabelTwice, Line, ObjectTwice, PolicyLimit, TextFault, UnknownLabel, Wrong, at_line, bytes_eq, list_any, option_map, option_map_or, option_or}
use Rattle.policy_text.specs.Entries.{Number, value, Entry, label, object, edge}

-- ---- limits

-- the most labels, and the number that no label reaches
abbrev pub labels_limit : ℕ
labels_limit = 8192

abbrev pub objects_limit : ℕ
objects_limit = 262144

-- edges that stand twice count once
abbrev pub edges_limit : ℕ
edges_limit = 262144

abbrev pub word_limit : ℕ
word_limit = 127

-- the number is past the last that a label may have
abbrev pub is_past : Number → Bool
is_past n = option_map_or (λ v. nat_le labels_limit v) (value n) true

-- ---- what entries have in common

-- a line, and what it says
abbrev pub Told : Type 0
Told = Line × Entry

-- a label line of this number
abbrev pub gives : Number → Entry → Bool
gives n (label m name) = bytes_eq m n
gives n _ = false

-- a label line of this name
abbrev pub names_label : List ℕ → Entry → Bool
names_label name (label m other) = bytes_eq other name
names_label name _ = false

-- an object line for this object
abbrev pub labels_object : List ℕ → Entry → Bool
labels_object word (object other n) = bytes_eq other word
labels_object word _ = false

abbrev pub is_label : Entry → Bool
is_label (label n name) = true
is_label _ = false

abbrev pub is_object : Entry → Bool
is_object (object word n) = true
is_object _ = false

abbrev pub is_edge : Entry → Bool
is_edge (edge l a m) = true
is_edge _ = false

-- an edge line of this text, which says the same edge: fields are parted by one space, and numbers have no leading zeros
abbrev pub says_edge : List ℕ → Told → Bool
says_edge text told = is_edge told.1 && bytes_eq told.0.text text

-- an edge line whose edge none of these says
abbrev pub is_new_edge : List Told → Told → Bool
is_new_edge before told = is_edge told.1 && not (list_any (says_edge told.0.text) before)

-- the different edges of lines that stand behind these
abbrev pub new_edges : List Told → List Told → ℕ
new_edges before [] = 0
new_edges before (told ∷ more) = (if is_new_edge before told then 1 else 0) + new_edges (before ++ told ∷ []) more

-- ---- faults

-- What is wrong with a line, by the least code that stands there. `knows` tells which numbers have a label, `before` are the
-- lines in front of it.
abbrev pub wrong_entry : (Number → Bool) → List Told → Line → Entry → Option Wrong
wrong_entry knows before line (label n name) =
    if list_any (λ t. gives n t.1) before || list_any (λ t. names_label name t.1) before then Some (LabelTwice, n)
    else if is_past n || nat_le labels_limit (count_by (λ t. is_label t.1) before) then Some (PolicyLimit, [])
    else None
wrong_entry knows before line (object word n) =
    if not (knows n) then Some (UnknownLabel, n)
    else if list_any (λ t. labels_object word t.1) before then Some (ObjectTwice, word)
    else if nat_lt word_limit (length word) || nat_le objects_limit (count_by (λ t. is_object t.1) before)
    then Some (PolicyLimit, [])
    else None
wrong_entry knows before line (edge l a m) =
    if not (knows l) then Some (UnknownLabel, l)
    else if not (knows m) then Some (UnknownLabel, m)
    else if not (list_any (says_edge line.text) before) && nat_le edges_limit (new_edges [] before) then Some (PolicyLimit, [])
    else None

abbrev pub wrong : (Number → Bool) → List Told → Told → Option Wrong
wrong knows before told = wrong_entry knows before told.0 told.1

-- the fault of a line behind these
abbrev pub fault_at : (Number → Bool) → List Told → Told → Option TextFault
fault_at knows before told = option_map (at_line told.0) (wrong knows before told)

-- the first fault of lines that stand behind these
abbrev pub first_wrong : (Number → Bool) → List Told → List Told → Option TextFault
first_wrong knows before [] = None
first_wrong knows before (told ∷ more) = option_or (fault_at knows before told) (first_wrong knows (before ++ told ∷ []) more)
