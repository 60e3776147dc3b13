use Rattle.vspace_layout.proofs.Common.{FlatConnection, [], before, gather, length, register_frames, take, ◌++◌, ◌+◌, ◌∷◌, ◌≡◌}
use Rattle.vspace_layout.proofs.memory_frames.push_all_registers.Given as goal

abbrev pub invariant-loop-number : goal.invariant-loop-number
invariant-loop-number l = record {
  frames : l.frames ≡ l.fn.frames
      ++ gather (register_frames l.wiring.flat l.wiring.settled) (take l.number l.wiring.flat.connections);
  places : l.places.items ≡ gather (λ k (c : FlatConnection). (length l.fn.frames
      + before (register_frames l.wiring.flat l.wiring.settled) l.wiring.flat.connections k) ∷ [])
      (take l.number l.wiring.flat.connections);
}
