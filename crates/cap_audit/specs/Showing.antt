-- Words for the contracts of private functions alone: what the parts of an audit show.
use Rattle.std.specs.Prelude.{◌≡◌, ◌⊎◌, ℕ, List, length}
use Rattle.cap_audit.specs.Below.{Auth, Cap, Edge, IsKept, Reply, Spec, boot, edge, label_of}
use Rattle.cap_audit.specs.Search.{Found}
use Rattle.cap_audit.specs.Spread.{HasRoot, HaveRoots, Meet, MayCall, Spread}
use Rattle.cap_audit.specs.Gains.{IsAll, IsSoFar, Made}
use Rattle.cap_audit.specs.Kinds.{AreStandIns, stand_in}
use Rattle.cap_audit.specs.Picks.{OfDeeds}
use Rattle.cap_audit.specs.declared.making.Deed.TheVariants as deeds

-- faces have the labels of those for whom they stand; heads are roots of threads where those are
pub record AreKinds (spec : Spec) (labels : List ℕ) (f : Found) (faces : List ℕ) (heads : List ℕ) : Type 0 where
  pub are_faces : AreStandIns f faces
  pub are_heads : AreStandIns f heads
  pub as_many : length heads ≡ length spec.entries
  pub labelled : (c : ℕ) → label_of labels (stand_in faces c) ≡ label_of labels c
  pub rooted : (c t : ℕ) → HasRoot spec t c → (u : ℕ) × HasRoot spec u (stand_in heads c)

-- a report over all that was found
pub record IsBegun (m : Made) : Type 0 where
  pub so_far : IsSoFar m
  pub all : IsAll m.spec m.found
  pub kept : IsKept m.spec
  pub labelled : length m.labels ≡ length m.spec.entries
  pub kinds : AreKinds m.spec m.labels m.found m.faces m.heads

abbrev pub OfBoot : Spec → List ℕ → Edge → Type 0
OfBoot spec labels e = Auth spec labels (boot spec) e.from e.authority e.to

-- what maps and binds of some thread make, whose root stands for itself
pub data OfAllDeeds (spec : Spec) (labels : List ℕ) (f : Found) (heads : List ℕ) (e : Edge) : Type 0 where
  by_map : (t c : ℕ) → HasRoot spec t c → stand_in heads c ≡ c → OfDeeds spec labels f deeds.Map c e
      → OfAllDeeds spec labels f heads e
  by_bind : (t c : ℕ) → HasRoot spec t c → stand_in heads c ≡ c → OfDeeds spec labels f deeds.Bind c e
      → OfAllDeeds spec labels f heads e

-- what a call of t to u by the Spread makes, whose roots are c and d
pub record OfAllCalls (spec : Spec) (labels : List ℕ) (e : Edge) : Type 0 where
  pub t : ℕ
  pub u : ℕ
  pub c : ℕ
  pub d : ℕ
  pub to : Cap
  pub from : Cap
  pub roots : HaveRoots spec t u c d
  pub has : Spread spec c to
  pub peer_has : Spread spec d from
  pub meet : Meet spec to from
  pub may : MayCall to
  pub is : (e ≡ edge (label_of labels u) Reply (label_of labels t)) ⊎ (e ≡ edge (label_of labels d) Reply (label_of labels t))
