-- Answers about files.
use Rattle.std.specs.Prelude.{Bool, true, false, Result, Ok, Err}
use Rattle.cam_base.specs.declared.place.Fault.{Fault}
use Rattle.cam_base.specs.declared.error.Unread.{Unread}
use Rattle.cam_base.specs.declared.error.Unread.TheVariants as unread

-- why nothing was made of a source
abbrev pub SourceError : Type 0
SourceError = Unread Fault

-- whether an answer may come in place of another: a failed read, or want of memory
abbrev pub yields : {T F : Type 0} → Result T (Unread F) → Bool
yields (Ok x) = false
yields (Err (unread.Fault fault file)) = false
yields (Err (unread.ReadFault file)) = true
yields (Err unread.NoMemory) = true
