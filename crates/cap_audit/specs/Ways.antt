-- Words for the contracts of private functions alone: ways from one CNode to another, and where they lead together.
use Rattle.std.specs.Prelude.{◌≡◌, ◌<◌, ◌≤◌, ◌⊎◌, ℕ, ◌+◌, true, List, [], ◌∷◌, ◌++◌, length, slice_get, slice_index, Some}
use Rattle.cap_audit.specs.Below.{Contains, Spec}
use Rattle.cap_audit.specs.Nets.{Lanes}
use Rattle.cap_audit.specs.Search.{Found, is_known, IsWay, IsFound, Grows, unknowns}
use Rattle.cap_audit.specs.declared.found.Held.{Held}
use Rattle.cap_audit.specs.declared.found.Pair.{Pair}
use Rattle.cap_audit.specs.declared.found.Way.{Way}
use Rattle.cap_audit.specs.declared.ways.Web.{Web}
use Rattle.cap_audit.specs.Rows.{row_at, with_more}

abbrev pub ways_from : Lanes → ℕ → List Way
ways_from net c = row_at net.out c

-- ways lead from c to d, one after the other
pub data Path (net : Lanes) : ℕ → ℕ → Type 0 where
  at_end : {c : ℕ} → Path net c c
  along : {c d : ℕ} (way : Way) → Contains (ways_from net c) way → Path net way.to d → Path net c d

-- both are in one class
pub record InClass (net : Lanes) (c : ℕ) (d : ℕ) : Type 0 where
  pub one : c < length net.classes
  pub other : d < length net.classes
  pub same : slice_index net.classes c ≡ slice_index net.classes d

pub record AreWays (spec : Spec) (f : Found) (net : Lanes) : Type 0 where
  pub ways : (c : ℕ) (way : Way) → Contains (ways_from net c) way → IsWay spec f c way
  pub joined : (c d : ℕ) → InClass net c d → Path net c d
  pub as_many : length net.out ≡ length spec.entries
  pub as_many_classes : length net.classes ≡ length spec.entries

pub record Widens (net : Lanes) (new : Lanes) : Type 0 where
  pub ways : (c : ℕ) (way : Way) → Contains (ways_from net c) way → Contains (ways_from new c) way

-- what the first pairs of the queue say is known at the ends of all ways
unfoldable pub HaveGone : Found → Lanes → ℕ → Type 0
HaveGone f net done =
    (k : ℕ) (pair : Pair) (way : Way) → k < done → slice_get f.queue k ≡ Some pair → Contains (ways_from net pair.node) way
    → is_known f way.to pair.held.value ≡ true

-- more was found, and as much less is to be found
pub record Later (spec : Spec) (f : Found) (new : Found) : Type 0 where
  pub found : IsFound spec new
  pub grows : Grows f new
  pub fewer : unknowns new.known + length new.queue ≡ unknowns f.known + length f.queue

-- the value went along all these ways
pub record GoesAlong (spec : Spec) (f : Found) (ways : List Way) (held : Held) (new : Found) : Type 0 where
  pub later : Later spec f new
  pub there : (way : Way) → Contains ways way → is_known new way.to held.value ≡ true

-- all these values went along the way
pub record AllGo (spec : Spec) (f : Found) (way : Way) (helds : List Held) (new : Found) : Type 0 where
  pub later : Later spec f new
  pub there : (held : Held) → Contains helds held → is_known new way.to held.value ≡ true

-- what was found, and ways along which it may go
pub record IsWeb (spec : Spec) (web : Web) : Type 0 where
  pub found : IsFound spec web.findings
  pub ways : AreWays spec web.findings web.net

-- more was found and there are more ways, along which all has gone that has gone along ways before
pub record Widened (spec : Spec) (web : Web) (new : Web) : Type 0 where
  pub later : Later spec web.findings new.findings
  pub ways : AreWays spec new.findings new.net
  pub widens : Widens web.net new.net
  pub gone : (done : ℕ) → done ≤ length web.findings.queue → HaveGone web.findings web.net done
      → HaveGone new.findings new.net done

-- and ways lead from c to d
pub record Connects (spec : Spec) (web : Web) (c : ℕ) (d : ℕ) (new : Web) : Type 0 where
  pub widened : Widened spec web new
  pub path : Path new.net c d

-- the class of d is now the class of c, and no other class changed
pub record Merges (old : List ℕ) (c : ℕ) (d : ℕ) (new : List ℕ) : Type 0 where
  pub as_many : length new ≡ length old
  pub each : (x : ℕ) → (slice_index new x ≡ slice_index old x) ⊎ ((slice_index old x ≡ slice_index old d)
      × (slice_index new x ≡ slice_index old c))

-- a way more
abbrev pub with_way : Lanes → ℕ → Way → Lanes
with_way net c way = record net { out = with_more net.out c way }

-- one of the classes is now the other
abbrev pub Unites : List ℕ → ℕ → ℕ → List ℕ → Type 0
Unites old c d new = Merges old c d new ⊎ Merges old d c new

-- both are the same or in one class
abbrev pub Near : Lanes → ℕ → ℕ → Type 0
Near net c d = (c ≡ d) ⊎ InClass net c d

-- a way leads from c near to d
pub record HasWay (net : Lanes) (c : ℕ) (d : ℕ) : Type 0 where
  pub way : Way
  pub there : Contains (ways_from net c) way
  pub to : Near net way.to d

-- a way leads from near c to near d
pub record LeadsTo (net : Lanes) (c : ℕ) (d : ℕ) : Type 0 where
  pub by : ℕ
  pub from : Near net c by
  pub has : HasWay net by d

-- nothing changed, or a way leads back and both classes are now one
abbrev pub JoinsBack : Lanes → ℕ → ℕ → Lanes → Type 0
JoinsBack old c d new = (new ≡ old) ⊎ (LeadsTo old d c × (new.out ≡ old.out) × Unites old.classes c d new.classes)
