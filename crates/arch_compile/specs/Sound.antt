-- What holds of whatever is compiled: what its policy and its certificate have, and what its threads may do at boot and over
-- every interleaving of steps, by what the source assigns over its hierarchy of instances.
use Rattle.std.specs.Prelude.{◌≡◌, ◌≢◌, ◌↔◌, ◌⊎◌, ℕ, List, length, map}
use Rattle.arch_compile.specs.Below.{Edge, Has, IsIn, Labels}
use Rattle.arch_compile.specs.Built.{labelled}
use Rattle.arch_compile.specs.declared.building.Build.{Build}
use Rattle.assigned_laws.specs.Texts.{IsAssignedText, IsDirectText, IsLabelText, IsLockText, OfTexts}
use Rattle.assigned_laws.specs.Triples.{AreAll, Triple}
use Rattle.authorities.specs.declared.authority.Authority.{Authority}
use Rattle.arch_compile.specs.Summary.{summary_of}
use Rattle.cap_machine.specs.Runs.{Reaches}
use Rattle.cap_model.specs.Auth.{Auth}
use Rattle.cap_model.specs.Kept.{IsKept}
use Rattle.cap_model.specs.State.{boot}
use Rattle.cert_check.specs.Valid.{Valid}

-- ---- labels

-- the labels that its policy gives to objects, in the order of its lines
abbrev pub object_labels : Build → Labels
object_labels b = record { by_object = map (λ o. o.1) b.policy.objects }

-- these edges lead with the authority from the label with one text to that with the other
abbrev pub HasText : Build → List Edge → List ℕ → Authority → List ℕ → Type 0
HasText b edges from a to = OfTexts b.policy.labels (λ l m. Has edges l a m) from to

-- at boot the label with one text has the authority over that with the other
abbrev pub BootsText : Build → List ℕ → Authority → List ℕ → Type 0
BootsText b from a to = OfTexts b.policy.labels (λ l m. Auth b.spec (object_labels b).by_object (boot b.spec) l a m) from to

-- and some run of its spec reaches it
abbrev pub ReachesText : Build → List ℕ → Authority → List ℕ → Type 0
ReachesText b from a to = OfTexts b.policy.labels (λ l m. Reaches b.spec (object_labels b).by_object l a m) from to

-- ---- all of it

-- Its policy has the labels of its source and gives each object of its spec one of them, and has just the edges that the source
-- assigns, as many as its summary says; its certificate has those, and within the label of a domain with a lock what the domain
-- may do with it. By these labels the certificate keeps all rules, and has no edge that another one lacks that keeps them. At
-- boot labels have over others what they are assigned directly; and threads reach between labels exactly what is assigned.
pub record IsSound (b : Build) : Type 0 where
  pub objects : b.policy.objects ≡ labelled b.spec.entries (object_labels b).by_object
  pub kept : IsKept b.spec
  pub labels : (text : List ℕ) → ((l : ℕ) × IsIn (l, text) b.policy.labels) ↔ IsLabelText b.meaning.source text
  pub assigned : (from : List ℕ) (a : Authority) (to : List ℕ)
      → HasText b b.policy.edges from a to ↔ IsAssignedText b.meaning.source from a to
  pub counted : (all : List Triple) × AreAll (IsAssignedText b.meaning.source) all
      × (length all ≡ (summary_of b.meaning.flat b.spec b.policy.edges).edges)
  pub certified : (from : List ℕ) (a : Authority) (to : List ℕ)
      → HasText b b.cert from a to ↔ (IsAssignedText b.meaning.source from a to ⊎ IsLockText b.meaning.source from a to)
  pub valid : Valid b.spec (object_labels b).by_object b.policy.edges b.cert
  pub least : (policy other : List Edge) → Valid b.spec (object_labels b).by_object policy other
      → (l : ℕ) (a : Authority) (m : ℕ) → Has b.cert l a m → Has other l a m
  pub direct : (from : List ℕ) (a : Authority) (to : List ℕ) → from ≢ to
      → BootsText b from a to ↔ IsDirectText b.meaning.source from a to
  pub reaches : (from : List ℕ) (a : Authority) (to : List ℕ) → from ≢ to
      → ReachesText b from a to ↔ IsAssignedText b.meaning.source from a to
