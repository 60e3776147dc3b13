-- Words for the contracts of private functions alone: what a search has found of the Spread, and the steps that it made.
--
-- A value is a capability of a CNode slot, by its place in a list. What is found is that a CNode holds a value, at a
-- number of the state that the steps lead to.
use Rattle.std.specs.Prelude.{◌≡◌, ◌<◌, ℕ, ◌+◌, Bool, true, false, List, [], ◌∷◌, ◌++◌, length, slice_get, slice_index, slice_index_or, slice_set, Some, suc}
use Rattle.cap_audit.specs.Below.{Cap, Capability, Contains, Rights, Run, Spec, State, Step, boot, content_in, is_at, node_at}
use Rattle.cap_audit.specs.Quiet.{Quiet}
use Rattle.cap_audit.specs.Spread.{HasRoot, HaveRoots, Meet, MayGrant, MayCall}
use Rattle.cap_audit.specs.Rows.{row_at, with_more}
use Rattle.cap_audit.specs.declared.found.Course.{Course}
use Rattle.cap_audit.specs.declared.found.Course.TheVariants as courses
use Rattle.cap_audit.specs.declared.found.Held.{Held}
use Rattle.cap_audit.specs.declared.found.Pair.{Pair}
use Rattle.cap_audit.specs.declared.found.Way.{Way}
use Rattle.cap_machine.specs.declared.step.Step.TheVariants as steps
use Rattle.cap_model.specs.declared.kind.Kind.TheVariants as kinds

-- what contracts see of what was found; held, known and nexts go by the objects' places
pub record Found : Type 0 where
  pub values : List Cap
  pub held : List (List Held)
  pub known : List (List Bool)
  pub queue : List Pair
  pub steps : List Step
  pub nexts : List ℕ

-- without steps
abbrev pub bare : Found → Found
bare f = record f { steps = []; nexts = [] }

abbrev pub held_by : Found → ℕ → List Held
held_by f c = row_at f.held c

abbrev pub marks_of : Found → ℕ → List Bool
marks_of f c = slice_index_or f.known c []

abbrev pub is_known : Found → ℕ → ℕ → Bool
is_known f c v = slice_index_or (marks_of f c) v false

-- c holds this capability at this number
pub record HoldsAt (f : Found) (c : ℕ) (i : ℕ) (cap : Cap) : Type 0 where
  pub value : ℕ
  pub held : Contains (held_by f c) (record { value = value; number = i })
  pub is : slice_get f.values value ≡ Some cap

abbrev pub whole : Rights
whole = record { read = true; write = true; grant = true; reply = true }

-- the steps by which what stands at the number n goes along
abbrev pub steps_of : Course → ℕ → List Step
steps_of (courses.Take t i) n = steps.Take t i n whole ∷ []
steps_of (courses.Put t i) n = steps.Put t i n whole ∷ []
steps_of (courses.Grant t i u j) n = steps.Grant t i u j n whole ∷ []
steps_of (courses.Reply t i u j) n = steps.Call t i u j ∷ (steps.Reply u (Some (n, whole)) ∷ [])

-- what is held by c goes along the course to d
abbrev pub Leads : Spec → Found → ℕ → ℕ → Course → Type 0
Leads spec f c d (courses.Take t i) = (cap : Cap) × HasRoot spec t d × HoldsAt f d i cap
    × (is_at spec kinds.CNode cap.object ≡ true) × (cap.object ≡ c)
Leads spec f c d (courses.Put t i) = (cap : Cap) × HasRoot spec t c × HoldsAt f c i cap
    × (is_at spec kinds.CNode cap.object ≡ true) × (cap.object ≡ d)
Leads spec f c d (courses.Grant t i u j) =
    (to : Cap) × (from : Cap) × HaveRoots spec t u c d × HoldsAt f c i to × HoldsAt f d j from × Meet spec to from × MayGrant to
Leads spec f c d (courses.Reply t i u j) =
    (to : Cap) × (from : Cap) × HaveRoots spec t u d c × HoldsAt f d i to × HoldsAt f c j from × Meet spec to from × MayCall to
    × (from.rights.grant ≡ true)

abbrev pub IsWay : Spec → Found → ℕ → Way → Type 0
IsWay spec f c way = Leads spec f c way.to way.course

pub record IsFound (spec : Spec) (f : Found) : Type 0 where
  pub state : State
  pub run : Run spec (boot spec) f.steps state
  pub quiet : Quiet spec state
  pub nexts : (c : ℕ) → (node_at state c).next ≡ slice_index f.nexts c
  pub there : (c i : ℕ) (cap : Cap) → HoldsAt f c i cap → content_in state c i ≡ Some (Capability cap)
  pub queued : (k : ℕ) (pair : Pair) → slice_get f.queue k ≡ Some pair → Contains (held_by f pair.node) pair.held
  pub known : (c v : ℕ) → is_known f c v ≡ true → (k : ℕ) × (pair : Pair) × (slice_get f.queue k ≡ Some pair) × (pair.node ≡ c)
      × (pair.held.value ≡ v)
  pub marked : (k : ℕ) (pair : Pair) → slice_get f.queue k ≡ Some pair → is_known f pair.node pair.held.value ≡ true
  pub valued : (c : ℕ) (held : Held) → Contains (held_by f c) held → held.value < length f.values
  pub rows : (c : ℕ) → is_at spec kinds.CNode c ≡ true → length (marks_of f c) ≡ length f.values
  pub row_each : length f.known ≡ length spec.entries
  pub row_held : length f.held ≡ length spec.entries
  pub row_nexts : length f.nexts ≡ length spec.entries

-- what was found goes on being so
pub record Grows (f : Found) (new : Found) : Type 0 where
  pub values : new.values ≡ f.values
  pub held : (c : ℕ) (held : Held) → Contains (held_by f c) held → Contains (held_by new c) held
  pub known : (c v : ℕ) → is_known f c v ≡ true → is_known new c v ≡ true
  pub queue : (k : ℕ) (pair : Pair) → slice_get f.queue k ≡ Some pair → slice_get new.queue k ≡ Some pair

-- the value goes along to the way's end, where it stands at the next number
abbrev pub landed : Found → Way → Held → Found
landed f way held = record f {
  held = with_more f.held way.to (record { value = held.value; number = slice_index f.nexts way.to });
  known = slice_set f.known way.to (slice_set (marks_of f way.to) held.value true);
  queue = f.queue ++ record { node = way.to; held = record { value = held.value; number = slice_index f.nexts way.to } } ∷ [];
  steps = f.steps ++ steps_of way.course held.number;
  nexts = slice_set f.nexts way.to (slice_index f.nexts way.to + 1);
}

-- how many values aren't known

abbrev pub misses : List Bool → ℕ
misses [] = 0
misses (true ∷ row) = misses row
misses (false ∷ row) = suc (misses row)

abbrev pub unknowns : List (List Bool) → ℕ
unknowns [] = 0
unknowns (row ∷ rows) = misses row + unknowns rows

-- the value is brought along: it is known at the way's end, and there is as much less to find as more to look at
pub record Brings (spec : Spec) (f : Found) (way : Way) (held : Held) (new : Found) : Type 0 where
  pub found : IsFound spec new
  pub grows : Grows f new
  pub there : is_known new way.to held.value ≡ true
  pub fewer : unknowns new.known + length new.queue ≡ unknowns f.known + length f.queue
