-- Words for the contracts of private functions alone: how a search begins, with the capabilities of all slots.
use Rattle.std.specs.Prelude.{◌≡◌, ◌<◌, ◌⊎◌, ℕ, Bool, true, false, List, [], ◌∷◌, ◌++◌, map, replicate, length, slice_get, slice_index, slice_set, Option, Some, None}
use Rattle.cap_audit.specs.Below.{Cap, Contains, Entry, Object, Spec, boot, is_at, node_at}
use Rattle.cap_audit.specs.Search.{Found, held_by, marks_of, is_known, HoldsAt}
use Rattle.cap_audit.specs.Spread.{slots_at}
use Rattle.cap_audit.specs.Rows.{with_more}
use Rattle.cap_audit.specs.declared.found.Held.{Held}
use Rattle.cap_audit.specs.declared.found.Pair.{Pair}
use Rattle.cap_model.specs.declared.kind.Kind.TheVariants as kinds
use Rattle.cap_model.specs.declared.object.Object.TheVariants as objects

-- a CNode has a mark for each value
abbrev pub blank_row : ℕ → Object → List Bool
blank_row width (objects.CNode bits slots) = replicate width false
blank_row width _ = []

abbrev pub blank_rows : ℕ → List Entry → List (List Bool)
blank_rows width entries = map (λ e. blank_row width e.object) entries

-- a value more
abbrev pub with_value : Found → Cap → Found
with_value f cap = record f { values = f.values ++ cap ∷ [] }

-- the values have this one at the place, and nothing else changed but that it may be a new one
abbrev pub HasValue : Found → Cap → Found → ℕ → Type 0
HasValue f cap new place = ((new ≡ f) ⊎ (new ≡ with_value f cap)) × (slice_get new.values place ≡ Some cap)

-- a CNode has a value at a number from the start
abbrev pub owned : Found → ℕ → Held → Found
owned f c held = record f { held = with_more f.held c held; queue = f.queue ++ record { node = c; held = held } ∷ [] }

abbrev pub with_rows : Found → List (List Bool) → Found
with_rows f rows = record f { known = rows }

abbrev pub with_mark : Found → Pair → Found
with_mark f pair = with_rows f (slice_set f.known pair.node (slice_set (marks_of f pair.node) pair.held.value true))

-- the capability is in the queue
pub record Queued (f : Found) (c : ℕ) (cap : Cap) : Type 0 where
  pub place : ℕ
  pub pair : Pair
  pub there : slice_get f.queue place ≡ Some pair
  pub node : pair.node ≡ c
  pub is : slice_get f.values pair.held.value ≡ Some cap

-- the slots of the objects before n are in, and of the object n those before m
pub record Starts (spec : Spec) (f : Found) (n : ℕ) (m : ℕ) : Type 0 where
  pub steps : f.steps ≡ []
  pub nexts : (c : ℕ) → (node_at (boot spec) c).next ≡ slice_index f.nexts c
  pub row_nexts : length f.nexts ≡ length spec.entries
  pub row_held : length f.held ≡ length spec.entries
  pub own : (c i : ℕ) (cap : Cap) → HoldsAt f c i cap → Contains (slots_at spec c) (i, cap)
  pub queued : (k : ℕ) (pair : Pair) → slice_get f.queue k ≡ Some pair → Contains (held_by f pair.node) pair.held
  pub valued : (c : ℕ) (held : Held) → Contains (held_by f c) held → held.value < length f.values
  pub slots : (c k : ℕ) (slot : ℕ × Cap) → slice_get (slots_at spec c) k ≡ Some slot → (c < n) ⊎ ((c ≡ n) × (k < m))
      → Queued f c slot.1

-- what the pairs before a place say is known, and nothing else
pub record Marks (spec : Spec) (f : Found) (done : ℕ) : Type 0 where
  pub starts : Starts spec f (length spec.entries) 0
  pub row_each : length f.known ≡ length spec.entries
  pub rows : (c : ℕ) → is_at spec kinds.CNode c ≡ true → length (marks_of f c) ≡ length f.values
  pub known : (c v : ℕ) → is_known f c v ≡ true → (k : ℕ) × (pair : Pair) × (slice_get f.queue k ≡ Some pair) × (pair.node ≡ c)
      × (pair.held.value ≡ v)
  pub marked : (k : ℕ) (pair : Pair) → k < done → slice_get f.queue k ≡ Some pair → is_known f pair.node pair.held.value ≡ true

-- a list of the numbers below n
pub record IsCounted (numbers : List ℕ) (n : ℕ) : Type 0 where
  pub as_many : length numbers ≡ n
  pub each : (k : ℕ) → k < n → slice_index numbers k ≡ k

-- the CNode is the root of t
abbrev pub rooted : List (Option ℕ) → Option ℕ → ℕ → List (Option ℕ)
rooted roots None t = roots
rooted roots (Some c) t = slice_set roots c (Some t)
