use Rattle.boot_plan.proofs.Common.{length, length_push, place_line, rules, says_line, says_lines, says_nothing, zip, zip_end, zip_turn}
use Rattle.boot_plan.proofs.Zipping.{few_turn, turn, turned}
use Rattle.boot_plan.proofs.write.write_places.Goals as goal

pub loop-entry-init : goal.loop-entry-init
loop-entry-init g c = says_nothing

pub write_place-requires : goal.write_place-requires
write_place-requires g c =
    let t = turn c.args.spec.now.entries c.args.places.now (length c.loop-entry.yielded) c.in-Some.entry.now c.in-Some.place.now
    (zip_turn c.args.spec.now.entries c.args.places.now c.loop-entry.yielded c.into_iter-entry-iterator.result
    c.loop-entry.entry-iterator c.next.new.self c.next.result (search rules) (search rules) c.loop-entry.yielded_by
    (c.in-Some.entry, c.in-Some.place) c.in-Some.is c.next.ensures.steps) in
    few_turn c.args.spec.now c.args.places.now (length c.loop-entry.yielded) c.in-Some.entry.now c.in-Some.place.now
    c.requires t

pub loop-entry-preserved : goal.loop-entry-preserved
loop-entry-preserved g c =
    let t = turn c.args.spec.now.entries c.args.places.now (length c.loop-entry.yielded) c.in-Some.entry.now c.in-Some.place.now
    (zip_turn c.args.spec.now.entries c.args.places.now c.loop-entry.yielded c.into_iter-entry-iterator.result
    c.loop-entry.entry-iterator c.next.new.self c.next.result (search rules) (search rules) c.loop-entry.yielded_by
    (c.in-Some.entry, c.in-Some.place) c.in-Some.is c.next.ensures.steps) in
    rw length_push (says_line (place_line c.args.spec.now.arch) (zip c.args.spec.now.entries c.args.places.now)
    (length c.loop-entry.yielded) (c.in-Some.entry.now, c.in-Some.place.now) t.within t.is c.loop-entry.invariant
    c.write_place.ensures)

pub returns : goal.returns
returns g c = says_lines (place_line c.args.spec.now.arch) (zip c.args.spec.now.entries c.args.places.now)
    (length c.loop-entry.yielded)
    (turned c.args.spec.now.entries c.args.places.now (length c.loop-entry.yielded)
    (zip_end c.args.spec.now.entries c.args.places.now c.loop-entry.yielded c.into_iter-entry-iterator.result
    c.loop-entry.entry-iterator c.next.new.self c.next.result (search rules) (search rules) c.loop-entry.yielded_by
    c.in-None.is c.next.ensures.steps)) c.loop-entry.invariant
