-- Words for the contracts of private functions alone: what a search has done for the pairs that it has looked at.
use Rattle.std.specs.Prelude.{◌≡◌, ◌<◌, ℕ, true, List, length, slice_get, slice_index, slice_index_or, Option, Some, None}
use Rattle.cap_audit.specs.Below.{Cap, Contains, Spec, is_at}
use Rattle.cap_audit.specs.Hubs.{Allows, Fills, Gathering, IsHub, StandsAt, members_at}
use Rattle.cap_audit.specs.Search.{Found, is_known}
use Rattle.cap_audit.specs.Spread.{HasRoot, slots_at}
use Rattle.cap_audit.specs.Nets.{Lanes}
use Rattle.cap_audit.specs.Ways.{HaveGone, IsWeb, Later, Path, Widened}
use Rattle.cap_audit.specs.declared.found.Pair.{Pair}
use Rattle.cap_audit.specs.declared.hubs.Passage.{Passage}
use Rattle.cap_audit.specs.declared.hubs.Passage.TheVariants as passages
use Rattle.cap_audit.specs.declared.hubs.Side.{Side}
use Rattle.cap_audit.specs.declared.ways.Web.{Web}
use Rattle.cap_model.specs.declared.kind.Kind.TheVariants as kinds

-- what contracts see of all hubs
pub record Doors : Type 0 where
  pub grants : Gathering
  pub replies : Gathering

abbrev pub hub_of : Doors → Passage → Gathering
hub_of doors passages.Grant = doors.grants
hub_of doors passages.Reply = doors.replies

abbrev pub AreHubs : Spec → Web → Doors → Type 0
AreHubs spec web doors = (passage : Passage) → IsHub spec web passage (hub_of doors passage)

-- more ways and more members, with all that was
pub record Opens (spec : Spec) (web : Web) (doors : Doors) (new : Web) (full : Doors) : Type 0 where
  pub widened : Widened spec web new
  pub hubs : AreHubs spec new full
  pub fills : (passage : Passage) → Fills (hub_of doors passage) (hub_of full passage)

-- what the rules ask for because a root has this capability: to a CNode, ways there and back; to an endpoint, that it
-- stands in the hubs
pub record Covered (spec : Spec) (net : Lanes) (doors : Doors) (c : ℕ) (cap : Cap) : Type 0 where
  pub there : (t : ℕ) → HasRoot spec t c → is_at spec kinds.CNode cap.object ≡ true → Path net c cap.object
  pub back : (t : ℕ) → HasRoot spec t c → is_at spec kinds.CNode cap.object ≡ true → Path net cap.object c
  pub stands : (t : ℕ) (passage : Passage) (side : Side) → HasRoot spec t c → is_at spec kinds.Endpoint cap.object ≡ true
      → Allows passage side cap
      → StandsAt side net (members_at (hub_of doors passage) side cap.object) c

abbrev pub AreCovered : Spec → Web → Doors → ℕ → Type 0
AreCovered spec web doors done =
    (k : ℕ) (pair : Pair) (cap : Cap) → k < done → slice_get web.findings.queue k ≡ Some pair
    → slice_get web.findings.values pair.held.value ≡ Some cap → Covered spec web.net doors pair.node cap

-- each root CNode with a thread whose root it is
pub record AreRoots (spec : Spec) (threads : List (Option ℕ)) : Type 0 where
  pub true_ones : (c t : ℕ) → slice_index_or threads c None ≡ Some t → HasRoot spec t c
  pub all_ones : (c t : ℕ) → HasRoot spec t c → slice_index_or threads c None ≡ None → ⊥

-- the capability is covered
pub record Covers (spec : Spec) (web : Web) (doors : Doors) (c : ℕ) (cap : Cap) (new : Web) (full : Doors) : Type 0 where
  pub opens : Opens spec web doors new full
  pub covered : Covered spec new.net full c cap

-- the pair's capability is covered
pub record CoversPair (spec : Spec) (web : Web) (doors : Doors) (pair : Pair) (new : Web) (full : Doors) : Type 0 where
  pub opens : Opens spec web doors new full
  pub covered : (cap : Cap) → slice_get web.findings.values pair.held.value ≡ Some cap
      → Covered spec new.net full pair.node cap

-- all pairs before this place are looked at
pub record IsSearch (spec : Spec) (web : Web) (doors : Doors) (done : ℕ) : Type 0 where
  pub is : IsWeb spec web
  pub hubs : AreHubs spec web doors
  pub gone : HaveGone web.findings web.net done
  pub covered : AreCovered spec web doors done

-- every capability of a slot is found
pub record HasSlots (spec : Spec) (f : Found) : Type 0 where
  pub each : (c i : ℕ) (cap : Cap) → Contains (slots_at spec c) (i, cap) → (v : ℕ) × (slice_get f.values v ≡ Some cap)
      × (is_known f c v ≡ true)

-- ways lead from c to d and back
pub record Links (spec : Spec) (web : Web) (c : ℕ) (d : ℕ) (new : Web) : Type 0 where
  pub widened : Widened spec web new
  pub there : Path new.net c d
  pub back : Path new.net d c

-- the search went on, up to this place
pub record GoesOn (spec : Spec) (web : Web) (done : ℕ) (new : Web) (full : Doors) : Type 0 where
  pub search : IsSearch spec new full done
  pub later : Later spec web.findings new.findings

-- c is known to have the capability
pub record IsFoundAt (f : Found) (c : ℕ) (cap : Cap) : Type 0 where
  pub value : ℕ
  pub is : slice_get f.values value ≡ Some cap
  pub known : is_known f c value ≡ true

-- those of one class are known to have the same
pub record AreAlike (spec : Spec) (f : Found) (classes : List ℕ) : Type 0 where
  pub as_many : length classes ≡ length spec.entries
  pub known : (c d v : ℕ) → c < length classes → d < length classes → slice_index classes c ≡ slice_index classes d
      → is_known f c v ≡ true → is_known f d v ≡ true
