-- What is kept of the lines in front of a line.
use Rattle.std.specs.Prelude.{◌≡◌, ◌<◌, ◌≤◌, ℕ, Bool, List, [], ◌∷◌, ◌++◌, count_by, Option, None, Result, Ok, Err, IfSome}
use Rattle.policy_text.specs.Below.{Bor, Line, Refused, TextCode, TextFault, Wrong, list_any, option_map}
use Rattle.policy_text.specs.Entries.{Number, Entry}
use Rattle.policy_text.specs.PolicyFaults.{Told, gives, names_label, labels_object, says_edge, is_edge, is_label, is_object, new_edges, edges_limit, wrong_entry, fault_at}
use Rattle.policy_text.specs.PolicyTexts.{IsFault}
use Rattle.policy_text.specs.WordSets.{has}
use Rattle.policy_text.specs.declared.seen.Seen.{Seen}
use Rattle.policy_text.specs.declared.words.Words.{Words}

-- no more of these lines say an edge than a text may have edges
abbrev pub HasFewEdges : List Told → Type 0
HasFewEdges lines = count_by (λ t. is_edge t.1) lines ≤ edges_limit

-- and one more line may
abbrev pub HasRoom : List Told → Type 0
HasRoom lines = count_by (λ t. is_edge t.1) lines < edges_limit

-- the set has these lines' edges, each once
pub record HasEdges (before : List Told) (edges : Words) : Type 0 where
  pub each : (text : List ℕ) → has edges text ≡ list_any (says_edge text) before
  pub len : edges.len ≡ new_edges [] before

-- what these lines have said; the edges only where they are kept
pub record IsSeen (seen : Seen) (before : List Told) : Type 0 where
  pub numbers : (n : List ℕ) → has seen.numbers n ≡ list_any (λ t. gives n t.1) before
  pub names : (name : List ℕ) → has seen.names name ≡ list_any (λ t. names_label name t.1) before
  pub objects : (word : List ℕ) → has seen.objects word ≡ list_any (λ t. labels_object word t.1) before
  pub edges : IfSome seen.edges (HasEdges before)
  pub labels_len : seen.numbers.len ≡ count_by (λ t. is_label t.1) before
  pub objects_len : seen.objects.len ≡ count_by (λ t. is_object t.1) before

-- what was kept of some lines is kept of one line more, which says an entry with which nothing is wrong
abbrev pub Takes : Entry → List ℕ → Seen → Seen → Type 0
Takes entry text old new =
    (before : List Told) (knows : Number → Bool) (line : Line) → line.text ≡ text → IsSeen old before
    → wrong_entry knows before line entry ≡ None → IsSeen new (before ++ (line, entry) ∷ [])

-- a code, and the name that a fault speaks of
abbrev pub what : Option (TextCode × Bor (List ℕ)) → Option Wrong
what = option_map (λ w. (w.0, w.1.now))

-- a line was taken in behind these, or refused by its fault
abbrev pub IsLineJudged : (Number → Bool) → List Told → Told → Seen → Result (Unit {0}) (Refused TextFault) → Type 0
IsLineJudged knows before told seen (Ok _) = (fault_at knows before told ≡ None) × IsSeen seen (before ++ told ∷ [])
IsLineJudged knows before told seen (Err refusal) = IsFault (fault_at knows before told) refusal
