-- The answer that a command over texts gives, and that of a refusal.
use Rattle.std.specs.Prelude.{Result, Ok, Err}
use Rattle.camkes_tool.specs.Below.{InputError, Outcome, SourceError}
use Rattle.cam_base.specs.declared.error.Unread.TheVariants as unread
use Rattle.camkes_tool.specs.declared.answer.Answer.{Answer}
use Rattle.camkes_tool.specs.declared.answer.Answer.TheVariants.{Told, Faulted, Refused, ReadFault, NoMemory}

abbrev pub told : Result Outcome InputError → Answer
told (Ok outcome) = Told outcome
told (Err (unread.Fault fault file)) = Refused file fault
told (Err (unread.ReadFault file)) = ReadFault file
told (Err unread.NoMemory) = NoMemory

-- the answer of a command over a source that has no other
abbrev pub refused : SourceError → Answer
refused (unread.Fault fault file) = Faulted file fault
refused (unread.ReadFault file) = ReadFault file
refused unread.NoMemory = NoMemory
