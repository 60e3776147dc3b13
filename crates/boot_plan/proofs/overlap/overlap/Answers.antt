use Rattle.boot_plan.proofs.Common.{ap, refused_overlap, sym, ◌∙◌}
use Rattle.boot_plan.proofs.Overlapping.{overlap_found, overlap_passed}
use Rattle.boot_plan.proofs.Usual.{nowhere}
use Rattle.boot_plan.proofs.overlap.overlap.Goals as goal

pub returns-in-Some : goal.returns-in-Some
returns-in-Some c =
    ap refused_overlap (sym (overlap_found c.args.regions.now c.loop-second.second nowhere c.in-Some.first c.loop-second-test.true
    (sym c.in-Some.ensures)) ∙ c.loop-second.invariant)

pub loop-second-preserved : goal.loop-second-preserved
loop-second-preserved c = sym (overlap_passed c.args.regions.now c.loop-second.second nowhere c.loop-second-test.true
    (sym c.in_default.ensures)) ∙ c.loop-second.invariant
