-- What is answered of a root: what its source means, and with it the policy. In given contents there is one answer, aside from
-- failed reads and want of memory (`answers_are_one` in src/laws.rt), so each comes exactly where it says.
use Rattle.std.specs.Prelude.{◌≡◌, ℕ, List, [], None, Result, Ok, Err}
use Rattle.adl_meaning.specs.Prelude.{Source, flat_of}
use Rattle.adl_meaning.specs.declared.flat.Flat.{Flat}
use Rattle.adl_meaning.specs.declared.settled.Settled.{Settled}
use Rattle.adl_import.specs.Loaded.{IsLoaded}
use Rattle.adl_settings.specs.Settled.{settled_of}
use Rattle.arch_policy.specs.Labels.{label_lines, label_numbers}
use Rattle.arch_policy.specs.Policies.{IsPolicyOf}
use Rattle.cap_model.specs.Tables.{IsSorted}
use Rattle.cap_model.specs.declared.policy.Policy.{Policy}
use Rattle.cam_io.specs.Contents.{Contents}
use Rattle.front_end.specs.First.{first_front_fault, first_list_fault, source_tables}
use Rattle.front_end.specs.Refusals.{Refuses}
use Rattle.cam_base.specs.Unread.{SourceError}
use Rattle.front_end.specs.declared.phases.FrontEnd.{FrontEnd}
use Rattle.front_end.specs.declared.phases.Meaning.{Meaning}

-- the source means these
pub record IsMeant (source : Source) (flat : Flat) (settled : Settled) : Type 0 where
  pub is_flat : flat ≡ flat_of source
  pub is_settled : settled ≡ settled_of source

-- the root's source is loaded, no fault of the phases up to the settings stands, and this is what it means
pub record IsMeaningOf (root : List ℕ) (contents : Contents) (m : Meaning) : Type 0 where
  pub loaded : IsLoaded contents root (Ok m.source)
  pub none : first_front_fault m.source ≡ None
  pub meant : IsMeant m.source m.flat m.settled

abbrev pub IsMeaning : List ℕ → Contents → (List ℕ → ℕ) → (List ℕ → ℕ) → Result Meaning SourceError → Type 0
IsMeaning root contents before now (Ok m) = IsMeaningOf root contents m
IsMeaning root contents before now (Err e) = Refuses first_front_fault root contents before now e

-- it has the source's labels, labels no object yet, and has just the edges that are assigned, in order and each once
pub record IsAssigned (source : Source) (policy : Policy) : Type 0 where
  pub labels : policy.labels ≡ label_lines (flat_of source)
  pub objects : policy.objects ≡ []
  pub edges : IsPolicyOf (source_tables source) policy.edges
  pub sorted : IsSorted policy.edges

-- the root's source is loaded, none of these phases' faults stands, nor is the limit on edges passed; this is what the source
-- means, and what it assigns, with the numbers of the labels
pub record IsFrontOf (root : List ℕ) (contents : Contents) (f : FrontEnd) : Type 0 where
  pub loaded : IsLoaded contents root (Ok f.source)
  pub none : first_list_fault f.source ≡ None
  pub meant : IsMeant f.source f.flat f.settled
  pub assigned : IsAssigned f.source f.policy
  pub numbered : f.numbers ≡ label_numbers f.flat

abbrev pub IsFront : List ℕ → Contents → (List ℕ → ℕ) → (List ℕ → ℕ) → Result FrontEnd SourceError → Type 0
IsFront root contents before now (Ok f) = IsFrontOf root contents f
IsFront root contents before now (Err e) = Refuses first_list_fault root contents before now e
