use Rattle.boot_plan.proofs.Common.{arith, bytes_placed, length, length_push, rules, zip_end, zip_turn}
use Rattle.boot_plan.proofs.Zipping.{bytes_small, few_turn, sum_turn, sum_turned, turn}
use Rattle.boot_plan.proofs.write.bytes_placed.Goals as goal

pub entry_bytes-total-requires : goal.entry_bytes-total-requires
entry_bytes-total-requires c =
    let t = turn c.args.spec.now.entries c.args.places.now (length c.loop-entry.yielded) c.in-Some.entry.now c.in-Some.place.now
    (zip_turn c.args.spec.now.entries c.args.places.now c.loop-entry.yielded c.into_iter-entry-iterator.result
    c.loop-entry.entry-iterator c.next.new.self c.next.result (search rules) (search rules) c.loop-entry.yielded_by
    (c.in-Some.entry, c.in-Some.place) c.in-Some.is c.next.ensures.steps) in
    few_turn c.args.spec.now c.args.places.now (length c.loop-entry.yielded) c.in-Some.entry.now c.in-Some.place.now c.requires t

pub overflow_add-total : goal.overflow_add-total
overflow_add-total c =
    let t = turn c.args.spec.now.entries c.args.places.now (length c.loop-entry.yielded) c.in-Some.entry.now c.in-Some.place.now
    (zip_turn c.args.spec.now.entries c.args.places.now c.loop-entry.yielded c.into_iter-entry-iterator.result
    c.loop-entry.entry-iterator c.next.new.self c.next.result (search rules) (search rules) c.loop-entry.yielded_by
    (c.in-Some.entry, c.in-Some.place) c.in-Some.is c.next.ensures.steps) in
    let small = bytes_small c.args.spec.now c.args.places.now (length c.loop-entry.yielded) c.in-Some.entry.now
    c.in-Some.place.now c.requires t in
    omega (arith, t.few, c.loop-entry.invariant.few, small, c.entry_bytes-total.ensures, c.requires.few)

pub loop-entry-preserved : goal.loop-entry-preserved
loop-entry-preserved c =
    let t = turn c.args.spec.now.entries c.args.places.now (length c.loop-entry.yielded) c.in-Some.entry.now c.in-Some.place.now
    (zip_turn c.args.spec.now.entries c.args.places.now c.loop-entry.yielded c.into_iter-entry-iterator.result
    c.loop-entry.entry-iterator c.next.new.self c.next.result (search rules) (search rules) c.loop-entry.yielded_by
    (c.in-Some.entry, c.in-Some.place) c.in-Some.is c.next.ensures.steps) in
    let small = bytes_small c.args.spec.now c.args.places.now (length c.loop-entry.yielded) c.in-Some.entry.now
    c.in-Some.place.now c.requires t in
    let more = length_push c.loop-entry.yielded (c.in-Some.entry, c.in-Some.place) in
    let sum = sum_turn (bytes_placed c.args.spec.now.arch) c.args.spec.now.entries c.args.places.now (length c.loop-entry.yielded)
    c.in-Some.entry.now c.in-Some.place.now t in
    record {
      so_far = rw more (omega (arith, sum, c.entry_bytes-total.ensures, c.loop-entry.invariant.so_far));
      few = omega (arith, more, small, c.entry_bytes-total.ensures, c.loop-entry.invariant.few);
    }

pub returns : goal.returns
returns c = sum_turned (bytes_placed c.args.spec.now.arch) c.args.spec.now.entries c.args.places.now (length c.loop-entry.yielded)
    c.loop-entry.total (zip_end c.args.spec.now.entries c.args.places.now c.loop-entry.yielded c.into_iter-entry-iterator.result
    c.loop-entry.entry-iterator c.next.new.self c.next.result (search rules) (search rules) c.loop-entry.yielded_by c.in-None.is
    c.next.ensures.steps) c.loop-entry.invariant.so_far
