use Rattle.boot_plan.proofs.Common.{ap, arith, length, length_push, one_placed, rules, zip_end, zip_turn, ◌∙◌}
use mir.Val.{bool_byte}
use Rattle.boot_plan.proofs.Zipping.{one_is, one_small, sum_turn, sum_turned, turn}
use Rattle.boot_plan.proofs.write.objects_placed.Goals as goal

pub overflow_add-total : goal.overflow_add-total
overflow_add-total c =
    let t = turn c.args.spec.now.entries c.args.places.now (length c.loop-place.yielded) c.in-Some.field-0-0.now
    c.in-Some.place.now
    (zip_turn c.args.spec.now.entries c.args.places.now c.loop-place.yielded c.into_iter-place-iterator.result
    c.loop-place.place-iterator c.next.new.self c.next.result (search rules) (search rules) c.loop-place.yielded_by
    (c.in-Some.field-0-0, c.in-Some.place) c.in-Some.is c.next.ensures.steps) in
    let one = c.from-total.ensures ∙ ap bool_byte c.is_some.ensures ∙ one_is c.in-Some.field-0-0.now c.in-Some.place.now in
    omega (arith, t.few, c.loop-place.invariant.few, one, one_small c.in-Some.field-0-0.now c.in-Some.place.now, c.requires.few)

pub loop-place-preserved : goal.loop-place-preserved
loop-place-preserved c =
    let t = turn c.args.spec.now.entries c.args.places.now (length c.loop-place.yielded) c.in-Some.field-0-0.now
    c.in-Some.place.now
    (zip_turn c.args.spec.now.entries c.args.places.now c.loop-place.yielded c.into_iter-place-iterator.result
    c.loop-place.place-iterator c.next.new.self c.next.result (search rules) (search rules) c.loop-place.yielded_by
    (c.in-Some.field-0-0, c.in-Some.place) c.in-Some.is c.next.ensures.steps) in
    let one = c.from-total.ensures ∙ ap bool_byte c.is_some.ensures ∙ one_is c.in-Some.field-0-0.now c.in-Some.place.now in
    let more = length_push c.loop-place.yielded (c.in-Some.field-0-0, c.in-Some.place) in
    let sum = sum_turn one_placed c.args.spec.now.entries c.args.places.now (length c.loop-place.yielded) c.in-Some.field-0-0.now
    c.in-Some.place.now t in
    record {
      so_far = rw more (omega (arith, one, sum, c.loop-place.invariant.so_far));
      few = omega (arith, more, one, one_small c.in-Some.field-0-0.now c.in-Some.place.now, c.loop-place.invariant.few);
    }

pub returns : goal.returns
returns c = sum_turned one_placed c.args.spec.now.entries c.args.places.now (length c.loop-place.yielded) c.loop-place.total
    (zip_end c.args.spec.now.entries c.args.places.now c.loop-place.yielded c.into_iter-place-iterator.result
    c.loop-place.place-iterator c.next.new.self c.next.result (search rules) (search rules) c.loop-place.yielded_by c.in-None.is
    c.next.ensures.steps) c.loop-place.invariant.so_far
