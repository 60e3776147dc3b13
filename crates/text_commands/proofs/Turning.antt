-- Turns of inputs, with other counts: what was read stays so, and a read fault from a later count is one from an earlier.
use Rattle.text_commands.proofs.Common.{Contents, Err, Fault, InputError, InputFault, IsErrorOf, IsInput, IsTooLong, List, NoMemory, Ok, ReadFault, Refused, Result, TooLong, Turn, inl, inr, of_file, rules, ℕ, ◌≡◌, ◌⊎◌}
use Rattle.cam_io.proofs.Counts.{rose_after}
use Rattle.cam_io.specs.Causes.{NoneFell}
use Rattle.cam_io.specs.Reading.{KeepsFiles}

-- where there is an answer, what comes first is there, and the rest
pub then_ok : {A B : Type 0} {First Rest : A → Type 0} {Stops : InputError → Type 0} (y : B)
    → ((x : A) × First x × Rest x) ⊎ ((e : InputError) × Stops e × ◌≡◌ {A = Result B InputError} (Ok y) (Err e))
    → (x : A) × First x × Rest x
then_ok y (inl there) = there
then_ok y (inr (e, stops, is)) = absurd cc

-- the error of an input that is too long
pub too_long : (contents : Contents) (before now : List ℕ → ℕ) (name : List ℕ) (e : InputError)
    → IsErrorOf (of_file TooLong name) name e → IsTooLong contents name
    → IsInput contents before now name (Err e)
too_long contents before now name (Fault fault f) is long = (is.1, inr (is.0, long))
too_long contents before now name (ReadFault f) is long = absurd is
too_long contents before now name NoMemory is long = tt

-- from earlier counts
input_from : (contents : Contents) (first before now : List ℕ → ℕ) (file : List ℕ) (r : Result (List ℕ) InputError)
    → NoneFell first before
    → IsInput contents before now file r → IsInput contents first now file r
input_from contents first before now file (Err (ReadFault f)) fell h =
    (h.0, rose_after (first file) (before file) (now file) (fell file) h.1)
input_from contents first before now file (Err NoMemory) fell h = tt
input_from contents first before now file _ fell h = h

module _ {A E : Type 0} (tell : E → InputFault) (reads : List ℕ → Result A (Refused E) → Type 0) (file : List ℕ) where
  pub turn_from : (contents : Contents) (first before now : List ℕ → ℕ) (r : Result A InputError) → NoneFell first before
      → Turn contents before now tell reads file r → Turn contents first now tell reads file r
  turn_from contents first before now r fell (inl (bytes, input, told)) =
      inl (bytes, input_from contents first before now file (Ok bytes) fell input, told)
  turn_from contents first before now r fell (inr (e, input, is)) =
      inr (e, input_from contents first before now file (Err e) fell input, is)

  -- what was read, with any counts
  pub turn_done : (contents : Contents) (before now before' now' : List ℕ → ℕ) (x : A)
      → Turn contents before now tell reads file (Ok x) → Turn contents before' now' tell reads file (Ok x)
  turn_done contents before now before' now' x turn = inl (then_ok x turn)

  -- what was read of a file, and its bytes
  pub turn_read : (contents : Contents) (before now : List ℕ → ℕ) (x : A) → Turn contents before now tell reads file (Ok x)
      → (bytes : List ℕ) × reads bytes (Ok x)
  turn_read contents before now x turn = let read = then_ok x turn in (read.0, read.2)

-- ---- over files, as calls leave them

module _ {F : Type 0} (contents : Contents) (faults : F → List ℕ → ℕ) where
  module _ {A E : Type 0} (tell : E → InputFault) (reads : List ℕ → Result A (Refused E) → Type 0) (file : List ℕ) where
    -- a turn after a call, told from before it
    pub turn_after : {told : F → Contents → Type 0} (a b n : F) (r : Result A InputError) → KeepsFiles told faults a b
        → Turn contents (faults b) (faults n) tell reads file r → Turn contents (faults a) (faults n) tell reads file r
    turn_after a b n r k t = turn_from tell reads file contents (faults a) (faults b) (faults n) r k.later t

    -- a turn that is done, told to a later end
    pub turn_until : (a b n : F) (x : A) → Turn contents (faults a) (faults b) tell reads file (Ok x)
        → Turn contents (faults a) (faults n) tell reads file (Ok x)
    turn_until a b n x t = turn_done tell reads file contents (faults a) (faults b) (faults a) (faults n) x t

-- what a command's answers cite: a turn that is done, told with other counts; a turn after others, told from before them
pub ruleset turns = (rules, turn_done, turn_after)
