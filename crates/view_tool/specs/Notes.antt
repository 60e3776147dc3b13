-- The notes at the edges that a source assigns: each has the lines of its first reason.
use Rattle.std.specs.Prelude.{◌≡◌, ℕ, leb, Bool, true, false, List, [], ◌∷◌, codes, length, slice_get, Result, Ok, Err}
use Rattle.view_tool.specs.Below.{Build, Edge, Flat, FrontEnd, Policy, Settled, Source, option_map_or}
use Rattle.arch_policy.specs.Tables.{tables_of}
use Rattle.explain.specs.Explained.{Explains}
use Rattle.explain.specs.declared.reason.ExplainError.{ExplainError}
use Rattle.explain.specs.declared.reason.ExplainError.TheVariants as error
use Rattle.explain.specs.declared.reason.Reason.{Reason}
use Rattle.explain.specs.Lines.{reason_text}
use Rattle.view_tool.specs.declared.reasons.Grounds.{Grounds as Given}

-- by what an edge is explained: a source with what it means, and its policy
pub record Grounds : Type 0 where
  pub source : Source
  pub flat : Flat
  pub settled : Settled
  pub policy : Policy

abbrev pub told : Given → Grounds
told g = record { source = g.source.now; flat = g.flat.now; settled = g.settled.now; policy = g.policy.now }

abbrev pub of_front : FrontEnd → Grounds
of_front f = record { source = f.source; flat = f.flat; settled = f.settled; policy = f.policy }

abbrev pub of_build : Build → Grounds
of_build b = record { source = b.meaning.source; flat = b.meaning.flat; settled = b.meaning.settled; policy = b.policy }

-- the text of the label at this place; the labels of a source have their places as numbers
abbrev pub label_at : List (ℕ × List ℕ) → ℕ → List ℕ
label_at labels at = option_map_or (λ l. l.1) (slice_get labels at) []

abbrev pub Tells : Grounds → Result Reason ExplainError → List ℕ → Type 0
Tells g (Ok reason) note = note ≡ reason_text g.source g.flat reason
Tells g (Err error.NotAssigned) note = note ≡ codes "not assigned\n"
Tells g (Err error.NoMemory) note = ⊥

-- the note tells what explaining the edge answers
pub record IsNote (g : Grounds) (e : Edge) (note : List ℕ) : Type 0 where
  pub reason : Result Reason ExplainError
  pub explains : Explains (tables_of g.source g.flat g.settled) (label_at g.policy.labels e.from) e.authority
      (label_at g.policy.labels e.to) reason
  pub tells : Tells g reason note

-- each edge has the note at its place
abbrev pub AreNotes : Grounds → List Edge → List (List ℕ) → Type 0
AreNotes g [] [] = Unit {0}
AreNotes g (e ∷ es) (n ∷ ns) = IsNote g e n × AreNotes g es ns
AreNotes g [] (n ∷ ns) = ⊥
AreNotes g (e ∷ es) [] = ⊥

-- a page has the notes of at most 2,000 edges, and none of more
abbrev pub AreFewNotes : Bool → Grounds → List (List ℕ) → Type 0
AreFewNotes true g notes = AreNotes g g.policy.edges notes
AreFewNotes false g notes = notes ≡ []

abbrev pub ArePageNotes : Grounds → List (List ℕ) → Type 0
ArePageNotes g notes = AreFewNotes (leb (length g.policy.edges) 2000) g notes
