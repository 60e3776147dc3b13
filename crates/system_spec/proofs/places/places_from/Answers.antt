use Rattle.system_spec.proofs.Common.{arith, mark, taken_le, ◌+◌}
use Rattle.system_spec.proofs.Placing.{mark_turn, places_turn}
use Rattle.system_spec.proofs.places.places_from.Goals as goal

pub overflow_add-next : goal.overflow_add-next
overflow_add-next c =
    let cs = c.args.connections.now in
    let i = c.loop-connection.connection-index in
    let more = mark_turn c.args.standing c.args.first cs i c.loop-connection.next _ c.connection-item.result
    c.loop-connection-test.true c.connection-item.is c.number_of-next.ensures c.loop-connection.invariant.next in
    omega (arith, c.requires, more, taken_le (mark c.args.standing) cs (i + 1))

pub loop-connection-preserved : goal.loop-connection-preserved
loop-connection-preserved c =
    let cs = c.args.connections.now in
    let i = c.loop-connection.connection-index in
    record {
      so_far = places_turn c.args.standing c.args.first cs i c.loop-connection.next c.connection-item.result _ _
          c.loop-connection-test.true c.connection-item.is c.loop-connection.invariant.next c.loop-connection.invariant.so_far
          c.in_ok-push.ensures.ok;
      next = mark_turn c.args.standing c.args.first cs i c.loop-connection.next _ c.connection-item.result
          c.loop-connection-test.true c.connection-item.is c.number_of-next.ensures c.loop-connection.invariant.next;
    }
