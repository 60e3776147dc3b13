-- Acts: what a thread attempts, which is allowed or refused, and what interrupts and devices bring; and the object that acts.
use Rattle.std.specs.Prelude.{ℕ}
use Rattle.cap_machine.specs.declared.step.Step.{Step}
use Rattle.cap_machine.specs.declared.step.Step.TheVariants.{Take, Put, Grant, Call, Reply, SetCspace, SetVspace, Map, Bind, Drop, Save, ReplyTo}

-- t and u are threads, f is a frame, i and j are numbers in CNodes, and x is a value
pub data Attempt : Type 0 where
  step : (move : Step) → Attempt
  store : (t f x : ℕ) → Attempt
  load : (t f : ℕ) → Attempt
  send : (t i u j x : ℕ) → Attempt
  tell : (t x : ℕ) → Attempt
  tell_saved : (t i x : ℕ) → Attempt
  signal : (t i x : ℕ) → Attempt
  await : (t i : ℕ) → Attempt

-- d is an interrupt, f a frame of a device
pub data Act : Type 0 where
  allowed : (attempt : Attempt) → Act
  refused : (attempt : Attempt) → Act
  fire : (d x : ℕ) → Act
  device : (f x : ℕ) → Act

abbrev pub thread_of : Step → ℕ
thread_of (Take t i j r) = t
thread_of (Put t i j r) = t
thread_of (Grant t i u j k r) = t
thread_of (Call t i u j) = t
thread_of (Reply t copy) = t
thread_of (SetCspace t i j) = t
thread_of (SetVspace t i j) = t
thread_of (Map t i j r) = t
thread_of (Bind t i j) = t
thread_of (Drop t i) = t
thread_of (Save t) = t
thread_of (ReplyTo t i copy) = t

-- the thread that attempts it
abbrev pub maker : Attempt → ℕ
maker (step move) = thread_of move
maker (store t f x) = t
maker (load t f) = t
maker (send t i u j x) = t
maker (tell t x) = t
maker (tell_saved t i x) = t
maker (signal t i x) = t
maker (await t i) = t

-- the object that acts: a thread, an interrupt, or a frame of a device
abbrev pub actor : Act → ℕ
actor (allowed attempt) = maker attempt
actor (refused attempt) = maker attempt
actor (fire d x) = d
actor (device f x) = f
