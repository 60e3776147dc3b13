-- Outputs in memory: a list of channels by their numbers.
use Rattle.std.specs.Prelude.{ℕ, zero, suc, false, List, [], ◌∷◌, Option, None, Some}
use Rattle.cam_io.specs.Channels.{Channel, begun_name}
use Rattle.cam_io.specs.Sinks.{Sink}
use Rattle.cam_io.specs.declared.mem_outputs.MemOutputs.{MemOutputs}

-- what the channel of a number has, or d where there is none
abbrev pub of_channel : {A : Type 0} → (Channel → A) → A → List Channel → ℕ → A
of_channel p d [] k = d
of_channel p d (c ∷ cs) zero = p c
of_channel p d (c ∷ cs) (suc k) = of_channel p d cs k

-- what a channel holds
abbrev pub bytes_of : List Channel → ℕ → List ℕ
bytes_of = of_channel (λ c. c.bytes) []

-- the name that a channel is begun under
abbrev pub begun_of : List Channel → ℕ → Option (List ℕ)
begun_of = of_channel begun_name None

-- for how many bytes a channel has room left
abbrev pub room_of : List Channel → ℕ → ℕ
room_of = of_channel (λ c. c.room) 0

-- what the channels have begun and hold
unfoldable pub sink_of : List Channel → Sink
sink_of cs =
    record {
      begun = of_channel (λ c. c.begun) false cs;
      names = Some (of_channel (λ c. c.name) [] cs);
      written = Some (bytes_of cs);
    }

-- ---- of outputs in memory

abbrev pub channels : MemOutputs → List Channel
channels o = o.channels

abbrev pub mem_sink : MemOutputs → Sink
mem_sink o = sink_of o.channels

abbrev pub mem_bytes : MemOutputs → ℕ → List ℕ
mem_bytes o = bytes_of o.channels

abbrev pub mem_begun : MemOutputs → ℕ → Option (List ℕ)
mem_begun o = begun_of o.channels

-- for how many bytes each channel has room left
abbrev pub rooms : MemOutputs → ℕ → ℕ
rooms o = room_of o.channels

-- how often a call has failed, how many calls there were, and the numbers of those that fail
abbrev pub mem_faults : MemOutputs → ℕ
mem_faults o = o.faults

abbrev pub calls : MemOutputs → ℕ
calls o = o.calls

abbrev pub failing : MemOutputs → List ℕ
failing o = o.failing
