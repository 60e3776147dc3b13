-- Words for the contracts of private functions alone: which objects stand for others that hold the same.
use Rattle.std.specs.Prelude.{◌≡◌, ◌<◌, ◌⊎◌, ℕ, List, Option, None, Some, length, slice_get, slice_index, slice_index_or}
use Rattle.cap_audit.specs.Below.{Contains, Spec}
use Rattle.cap_audit.specs.Search.{Found}
use Rattle.cap_audit.specs.Spread.{HasRoot}
use Rattle.cap_audit.specs.declared.found.Pair.{Pair}
use Rattle.cap_audit.specs.Rows.{row_at}

-- who stands for an object
abbrev pub stand_in : List ℕ → ℕ → ℕ
stand_in places c = slice_index_or places c c

-- one of the same class and with the same mark, which stands for itself
pub record StandsFor (classes : List ℕ) (marks : List ℕ) (firsts : List ℕ) (r : ℕ) (c : ℕ) : Type 0 where
  pub inside : r < length firsts
  pub of_class : slice_index classes r ≡ slice_index classes c
  pub marked : slice_index marks r ≡ slice_index marks c
  pub itself : stand_in firsts r ≡ r

pub record AreFirsts (classes : List ℕ) (marks : List ℕ) (firsts : List ℕ) (n : ℕ) : Type 0 where
  pub as_many : length firsts ≡ n
  pub each : (c : ℕ) → c < n → StandsFor classes marks firsts (stand_in firsts c) c

-- by classes, those that stand for themselves
pub record AreRows (classes : List ℕ) (firsts : List ℕ) (rows : List (List ℕ)) : Type 0 where
  pub inside : (g r : ℕ) → Contains (row_at rows g) r → r < length firsts
  pub of_class : (g r : ℕ) → Contains (row_at rows g) r → slice_index classes r ≡ g
  pub itself : (g r : ℕ) → Contains (row_at rows g) r → stand_in firsts r ≡ r

-- the object, or one of the row with its mark
abbrev pub IsLike : List ℕ → List ℕ → ℕ → ℕ → Type 0
IsLike row marks c r = (r ≡ c) ⊎ (Contains row r × (slice_index marks r ≡ slice_index marks c))

abbrev pub root_mark : Option ℕ → ℕ
root_mark None = 0
root_mark (Some t) = 1

-- 1 for each root of a thread
pub record AreRootMarks (spec : Spec) (marks : List ℕ) : Type 0 where
  pub one : (c t : ℕ) → HasRoot spec t c → slice_index marks c ≡ 1
  pub root : (c : ℕ) → slice_index marks c ≡ 1 → (t : ℕ) × HasRoot spec t c

pub record AreHeads (spec : Spec) (classes : List ℕ) (heads : List ℕ) : Type 0 where
  pub marks : List ℕ
  pub are : AreRootMarks spec marks
  pub firsts : AreFirsts classes marks heads (length classes)

-- a thread of each root that stands for itself
pub record AreHeadRoots (spec : Spec) (heads : List ℕ) (roots : List (Option ℕ)) : Type 0 where
  pub true_ones : (c t : ℕ) → slice_index_or roots c None ≡ Some t → HasRoot spec t c
  pub all_ones : (c t : ℕ) → stand_in heads c ≡ c → HasRoot spec t c → slice_index_or roots c None ≡ None → ⊥

-- roots are left out only where others stand for them
pub record AreLeft (heads : List ℕ) (all : List (Option ℕ)) (roots : List (Option ℕ)) : Type 0 where
  pub same : (c : ℕ) → stand_in heads c ≡ c → slice_index_or roots c None ≡ slice_index_or all c None
  pub some : (c t : ℕ) → slice_index_or roots c None ≡ Some t → slice_index_or all c None ≡ Some t

-- the first n objects by who stands for them
pub record AreMembers (heads : List ℕ) (members : List (List ℕ)) (n : ℕ) : Type 0 where
  pub as_many : length members ≡ length heads
  pub stands : (h c : ℕ) → Contains (row_at members h) c → stand_in heads c ≡ h
  pub every : (c : ℕ) → c < n → stand_in heads c < length heads → Contains (row_at members (stand_in heads c)) c

-- the queue says that c holds the value
pub record IsQueued (f : Found) (c : ℕ) (value : ℕ) : Type 0 where
  pub place : ℕ
  pub pair : Pair
  pub there : slice_get f.queue place ≡ Some pair
  pub at : pair.node ≡ c
  pub of : pair.held.value ≡ value

-- those that stand for others stand for themselves, and hold what the others hold
pub record AreStandIns (f : Found) (places : List ℕ) : Type 0 where
  pub itself : (c : ℕ) → stand_in places (stand_in places c) ≡ stand_in places c
  pub inside : (c : ℕ) → c < length places → stand_in places c < length places
  pub held_there : (c v : ℕ) → IsQueued f c v → IsQueued f (stand_in places c) v
  pub held_here : (c v : ℕ) → IsQueued f (stand_in places c) v → IsQueued f c v
