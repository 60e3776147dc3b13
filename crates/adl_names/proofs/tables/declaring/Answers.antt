use Rattle.adl_names.proofs.Common.{declared_by, drop, drop_first, flat_map, ◌+◌, ◌∙◌}
use Rattle.adl_names.proofs.tables.declaring.Goals as goal

pub loop-member-preserved : goal.loop-member-preserved
loop-member-preserved c =
    let ms = c.args.members.now in
    let h = rw (drop_first ms c.loop-member.member-index c.member-item.result c.loop-member-test.true c.member-item.is) at
    c.loop-member.invariant in
    let rest = flat_map declared_by (drop (c.loop-member.member-index + 1) ms) in
    record {
      noted = c.in_ok-declare.ensures.noted rest ∙ h.noted;
      declared = λ n. c.in_ok-declare.ensures.found n rest
          ∙ h.declared n;
    }
