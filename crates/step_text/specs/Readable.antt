-- Steps that can be read back: each thread is the one that its name says, by a name of letters, digits and underscores,
-- and the numbers fit in 64 bits.
use Rattle.std.specs.Prelude.{◌≡◌, ◌<◌, ◌^◌, ℕ, true, Some, None}
use Rattle.step_text.specs.Below.{Spec, Step, is_word_byte, list_all, name_at}
use Rattle.cap_machine.specs.declared.step.Step.TheVariants as steps
use Rattle.step_text.specs.Threads.{thread_named}

pub record IsNamed (spec : Spec) (t : ℕ) : Type 0 where
  pub word : list_all is_word_byte (name_at spec t) ≡ true
  pub found : thread_named spec (name_at spec t) ≡ Some t

abbrev pub IsNumber : ℕ → Type 0
IsNumber n = n < 2 ^ 64

abbrev pub IsReadable : Spec → Step → Type 0
IsReadable spec (steps.Take t i j r) = IsNamed spec t × IsNumber i × IsNumber j
IsReadable spec (steps.Put t i j r) = IsNamed spec t × IsNumber i × IsNumber j
IsReadable spec (steps.Grant t i u j k r) = IsNamed spec t × IsNamed spec u × IsNumber i × IsNumber j × IsNumber k
IsReadable spec (steps.Call t i u j) = IsNamed spec t × IsNamed spec u × IsNumber i × IsNumber j
IsReadable spec (steps.Reply t None) = IsNamed spec t
IsReadable spec (steps.Reply t (Some copy)) = IsNamed spec t × IsNumber copy.0
IsReadable spec (steps.SetCspace t i j) = IsNamed spec t × IsNumber i × IsNumber j
IsReadable spec (steps.SetVspace t i j) = IsNamed spec t × IsNumber i × IsNumber j
IsReadable spec (steps.Map t i j r) = IsNamed spec t × IsNumber i × IsNumber j
IsReadable spec (steps.Bind t i j) = IsNamed spec t × IsNumber i × IsNumber j
IsReadable spec (steps.Drop t i) = IsNamed spec t × IsNumber i
IsReadable spec (steps.Save t) = IsNamed spec t
IsReadable spec (steps.ReplyTo t i None) = IsNamed spec t × IsNumber i
IsReadable spec (steps.ReplyTo t i (Some copy)) = IsNamed spec t × IsNumber i × IsNumber copy.0
