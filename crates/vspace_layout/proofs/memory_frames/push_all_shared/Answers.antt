use Rattle.vspace_layout.proofs.Common.{FlatConnection, [], ap, before, gather_turn, length, shared_frames, ◌++◌, ◌+◌, ◌∙◌, ◌∷◌}
use Rattle.vspace_layout.proofs.MemoryNumbers.{places_more}
use Rattle.vspace_layout.proofs.memory_frames.push_all_shared.Goals as goal

pub loop-number-preserved : goal.loop-number-preserved
loop-number-preserved c =
    let cs = c.args.wiring.now.flat.connections in
    let read = c.connections-connection-items.result.now in
    let i = c.loop-number.number in
    let x = c.connection-item.result in
    let f = shared_frames c.args.wiring.now.settled in
    record {
      frames = gather_turn f cs read i x c.args.frames.now c.loop-number.frames _ c.connections-connection-items.ensures
          c.loop-number-test.true c.connection-item.is c.loop-number.invariant.frames c.in_ok-push_shared.ensures;
      places = gather_turn (λ k (y : FlatConnection). (length c.args.frames.now + before f cs k) ∷ []) cs read i x []
          c.loop-number.places.items _ c.connections-connection-items.ensures c.loop-number-test.true c.connection-item.is
          c.loop-number.invariant.places
          (c.in_ok-push.ensures.items ∙ ap (λ n. c.loop-number.places.items ++ n ∷ []) (c.len.ensures
          ∙ places_more f cs i c.args.frames.now c.loop-number.frames c.loop-number.invariant.frames));
    }
