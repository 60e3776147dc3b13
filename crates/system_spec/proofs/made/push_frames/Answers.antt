use Rattle.system_spec.proofs.Common.{FrameInfo, List, Part, [], ap, arith, entry, frame_part, gather, gather_turn, length, part_label, take_all, told, ◌++◌, ◌∙◌, ◌∷◌, ◌≤◌}
use Rattle.system_spec.proofs.Bounds.{ends}
use Rattle.system_spec.proofs.Turning.{frames_mapped}
use Rattle.system_spec.proofs.made.push_frames.Goals as goal

pub overflow_cast-number : goal.overflow_cast-number
overflow_cast-number c =
    let all = (ends (told c.args.tables.now) c.requires.buildable.few).frames in
    omega (arith, all, c.loop-number-test.true, ap length c.as_slice-frame-items.ensures)

pub loop-number-preserved : goal.loop-number-preserved
loop-number-preserved c =
    let t = told c.args.tables.now in
    let frames = c.args.tables.now.spaces.now.frames in
    record {
      entries = gather_turn (λ f (x : FrameInfo). entry t (frame_part f x) ∷ []) frames _ c.loop-number.number _ _ _ _
          c.as_slice-frame-items.ensures c.loop-number-test.true c.frame-item.is c.loop-number.invariant.entries
          (c.in_ok-push_object.ensures.entries ∙ ap (λ (p : Part). c.loop-number.entries ++ entry t p ∷ [])
          c.frame_part-part.ensures);
      labels = gather_turn (λ f (x : FrameInfo). part_label t (frame_part f x) ∷ []) frames _ c.loop-number.number _ _ _ _
          c.as_slice-frame-items.ensures c.loop-number-test.true c.frame-item.is c.loop-number.invariant.labels
          (c.in_ok-push_object.ensures.labels ∙ ap (λ (p : Part). c.loop-number.labels ++ part_label t p ∷ [])
          c.frame_part-part.ensures);
    }

pub returns : goal.returns
returns c =
    let t = told c.args.tables.now in
    let frames = c.args.tables.now.spaces.now.frames in
    let past : length frames ≤ c.loop-number.number =
    omega (arith, c.loop-number-test.false, ap length c.as_slice-frame-items.ensures) in
    let whole = take_all c.loop-number.number frames past in
    record {
      entries = c.loop-number.invariant.entries ∙ ap (λ (z : List FrameInfo). c.args.entries.now
          ++ gather (λ f (x : FrameInfo). entry t (frame_part f x) ∷ []) z) whole
          ∙ ap (λ z. c.args.entries.now ++ z) (frames_mapped (entry t) frames);
      labels = c.loop-number.invariant.labels ∙ ap (λ (z : List FrameInfo). c.args.labels.now
          ++ gather (λ f (x : FrameInfo). part_label t (frame_part f x) ∷ []) z) whole
          ∙ ap (λ z. c.args.labels.now ++ z) (frames_mapped (part_label t) frames);
    }
