-- What a writer says to its channel.
use Rattle.std.specs.Prelude.{◌≡◌, ℕ, Bool, false, cond, List, [], ◌++◌, Result, Ok, Err, OnOk}
use Rattle.cam_io.specs.Sinks.{Sink, Writes}
use Rattle.cam_io.specs.declared.files.Failed.{Failed}
use Rattle.cam_io.specs.declared.outputs.Outputs.{Ghosts}
use Rattle.cam_io.specs.declared.writer.Writer.{Writer}

-- what a writer answers at the end
abbrev pub outcome : Bool → Result (Unit {0}) Failed
outcome failed = cond failed (Err record {}) (Ok tt)

-- Since the outputs held what old tells and calls of theirs had failed so often, the writer was given the text. What it has
-- sent of it is written to its channel, or a front of that where it failed; unless it failed, the rest waits.
pub record Said {O : Type 0} {T : Ghosts O} (old : Sink) (text : List ℕ) (before : ℕ) (w : Writer O T) : Type 0 where
  pub sent : List ℕ
  pub rest : List ℕ
  pub all : text ≡ sent ++ rest
  pub writes : Writes (outcome w.failed) w.channel sent old (T.sink w.out.now) before (T.faults w.out.now)
  pub waits : w.failed ≡ false → w.waiting.items ≡ rest

-- Whatever the writer was given, it is now given this text too, for the same outputs and the same channel.
pub record Says {O : Type 0} {T : Ghosts O} (old : Writer O T) (text : List ℕ) (new : Writer O T) : Type 0 where
  pub same : new.out.ghost_name ≡ old.out.ghost_name
  pub channel : new.channel ≡ old.channel
  pub said : (sink : Sink) (said : List ℕ) (before : ℕ) → Said sink said before old → Said sink (said ++ text) before new

-- Nothing waits any more, and no more was said, unless the writer has failed.
pub record Flushes {O : Type 0} {T : Ghosts O} (old : Writer O T) (result : Result (Unit {0}) Failed) (new : Writer O T)
    : Type 0 where
  pub said : Says old [] new
  pub answers : result ≡ outcome new.failed
  pub none : OnOk result (new.waiting.items ≡ [])
