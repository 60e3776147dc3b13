use Rattle.system_spec.proofs.Common.{FrameInfo, [], entry, frame_part, gather, part_label, take, told, ◌++◌, ◌∷◌, ◌≡◌}
use Rattle.system_spec.proofs.made.push_frames.Given as goal

abbrev pub invariant-loop-number : goal.invariant-loop-number
invariant-loop-number l = record {
  entries : l.entries ≡ l.fn.entries ++ gather (λ f (x : FrameInfo). entry (told l.tables) (frame_part f x) ∷ [])
      (take l.number l.tables.spaces.now.frames);
  labels : l.labels ≡ l.fn.labels ++ gather (λ f (x : FrameInfo). part_label (told l.tables) (frame_part f x) ∷ [])
      (take l.number l.tables.spaces.now.frames);
}
