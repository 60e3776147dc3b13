-- What outputs have begun and hold.
use Rattle.std.specs.Prelude.{◌≡◌, ◌≤◌, ℕ, Bool, true, ◌||◌, ◌==◌, cond, List, ◌++◌, Option, None, Some, IsTrue, Result, OnOk, OnErr, take}
use Rattle.cam_io.specs.Causes.{Rose}

-- Which channels are begun, and, where they are told, under which names, and what each holds.
pub record Sink : Type 0 where
  pub begun : ℕ → Bool
  pub names : Option (ℕ → List ℕ)
  pub written : Option (ℕ → List ℕ)

abbrev pub is_open : Sink → ℕ → Bool
is_open s channel = channel == 0 || (channel == 1 || s.begun channel)

abbrev pub at_channel : {A : Type 0} → ℕ → A → (ℕ → A) → ℕ → A
at_channel channel a f k = cond (k == channel) a (f k)

unfoldable pub more : ℕ → List ℕ → Option (ℕ → List ℕ) → Option (ℕ → List ℕ)
more channel bytes None = None
more channel bytes (Some w) = Some (λ k. cond (k == channel) (w k ++ bytes) (w k))

unfoldable pub named : ℕ → List ℕ → Option (ℕ → List ℕ) → Option (ℕ → List ℕ)
named channel name None = None
named channel name (Some f) = Some (at_channel channel name f)

-- with these bytes at the end of a channel
unfoldable pub appended : Sink → ℕ → List ℕ → Sink
appended s channel bytes = record { begun = s.begun; names = s.names; written = more channel bytes s.written }

-- with a channel begun under a name
unfoldable pub with_begun : Sink → ℕ → List ℕ → Sink
with_begun s channel name = record {
  begun = at_channel channel true s.begun;
  names = named channel name s.names;
  written = s.written;
}

-- a front of the bytes stands at the channel's end
pub record IsCut (old : Sink) (channel : ℕ) (bytes : List ℕ) (new : Sink) : Type 0 where
  pub count : ℕ
  pub front : new ≡ appended old channel (take count bytes)

-- The bytes stand at the channel's end, or a front of them after a failure, which comes only where the count rose.
pub record Writes {E : Type 0} (result : Result (Unit {0}) E) (channel : ℕ) (bytes : List ℕ) (old new : Sink)
    (before now : ℕ) : Type 0 where
  pub ok : OnOk result (new ≡ appended old channel bytes)
  pub err : OnErr result (IsCut old channel bytes new)
  pub later : before ≤ now
  pub failed : OnErr result (Rose before now)

-- bytes may be written on the channel
pub record IsOpen (s : Sink) (channel : ℕ) : Type 0 where
  pub may : IsTrue (is_open s channel)
