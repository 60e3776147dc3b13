use Rattle.boot_plan.proofs.Common.{AreFree, first_overlap, sym, ◌∙◌}
use Rattle.boot_plan.proofs.Refusing.{none_overlap, refuses_page, refuses_room}
use Rattle.boot_plan.proofs.planning.free.Goals as goal

pub returns-in-Some-2 : goal.returns-in-Some-2
returns-in-Some-2 c = refuses_page c.args.needs.now c.args.regions.now c.in-Some-2.refusal (sym c.in_default.ensures)
    (sym c.in_ok-refusal.ensures ∙ c.in-Some-2.is)

pub returns-in-Some-no_room : goal.returns-in-Some-no_room
returns-in-Some-no_room c =
    let regions = none_overlap (first_overlap c.args.regions.now) (sym c.in_default.ensures) in
    let free : AreFree c.args.needs.now c.args.regions.now = record {
      regions = regions;
      devices = sym c.in_ok-refusal.ensures
          ∙ c.in_default-2.is;
    } in
    refuses_room c.args.needs.now c.args.regions.now c.in-Some-no_room.refusal free c.in-Some-no_room.ensures
