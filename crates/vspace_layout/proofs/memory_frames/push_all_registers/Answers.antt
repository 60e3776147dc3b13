use Rattle.vspace_layout.proofs.Common.{FlatConnection, [], ap, before, frames_by, gather_turn, length, read_place, register_frames, ◌++◌, ◌+◌, ◌∙◌, ◌∷◌}
use Rattle.vspace_layout.proofs.MemoryNumbers.{first_read, frames_by_first, places_more}
use Rattle.vspace_layout.proofs.memory_frames.push_all_registers.Goals as goal

pub loop-number-preserved : goal.loop-number-preserved
loop-number-preserved c =
    let flat = c.args.wiring.now.flat in
    let settled = c.args.wiring.now.settled in
    let cs = flat.connections in
    let read = c.connections-connection-items.result.now in
    let i = c.loop-number.number in
    let x = c.connection-item.result in
    let f = register_frames flat settled in
    let at = read_place cs read i x c.connections-connection-items.ensures c.loop-number-test.true c.connection-item.is in
    let first = first_read cs c.args.firsts.now i x c.requires.firsts at in
    record {
      frames = gather_turn f cs read i x c.args.frames.now c.loop-number.frames _ c.connections-connection-items.ensures
          c.loop-number-test.true c.connection-item.is c.loop-number.invariant.frames
          (c.in_ok-push_registers.ensures ∙ ap (λ o. c.loop-number.frames ++ frames_by settled o i x) first
          ∙ ap (λ z. c.loop-number.frames ++ z) (frames_by_first flat settled i x));
      places = gather_turn (λ k (y : FlatConnection). (length c.args.frames.now + before f cs k) ∷ []) cs read i x []
          c.loop-number.places.items _ c.connections-connection-items.ensures c.loop-number-test.true c.connection-item.is
          c.loop-number.invariant.places
          (c.in_ok-push.ensures.items ∙ ap (λ n. c.loop-number.places.items ++ n ∷ []) (c.len.ensures
          ∙ places_more f cs i c.args.frames.now c.loop-number.frames c.loop-number.invariant.frames));
    }
