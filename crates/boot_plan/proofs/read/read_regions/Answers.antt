use Rattle.boot_plan.proofs.Common.{line_of, lines_left}
use Rattle.boot_plan.proofs.Reading.{region_step, sound_more}
use Rattle.boot_plan.proofs.read.read_regions.Goals as goal

pub loop-line-preserved : goal.loop-line-preserved
loop-line-preserved c =
    let s = region_step c.loop-line.regions c.len.result (line_of c.in-Some.line) (lines_left c.loop-line.line-iterator)
    (lines_left c.next.new.self) c.in_ok-region.region _ _ _ c.len.ensures c.in-Some.ensures.steps c.in_ok-region.ensures
    c.loop-line.invariant.bad c.loop-line.invariant.regions c.in_ok-push.ensures.ok in
    record {
      bad = s.bad;
      sound = sound_more c.loop-line.regions _ c.len.result (line_of c.in-Some.line) c.in_ok-region.region c.len.ensures
          c.in_ok-region.ensures c.loop-line.invariant.sound c.in_ok-push.ensures.ok;
      regions = s.regions;
    }
