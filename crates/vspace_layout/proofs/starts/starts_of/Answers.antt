use Rattle.vspace_layout.proofs.Common.{Stack, arith, region}
use Rattle.vspace_layout.proofs.Starting.{end_more, room, starts_more}
use Rattle.vspace_layout.proofs.starts.starts_of.Goals as goal

pub overflow_add-start : goal.overflow_add-start
overflow_add-start c = let r = room c.args.base c.loop-region.end c.args.regions.now c.loop-region.region-index (region Stack 0)
    c.requires c.loop-region.invariant.at c.loop-region-test.true in omega (arith, r)

pub overflow_mul-end : goal.overflow_mul-end
overflow_mul-end c = let r = room c.args.base c.loop-region.end c.args.regions.now c.loop-region.region-index (region Stack 0)
    c.requires c.loop-region.invariant.at c.loop-region-test.true in omega (arith, r)

pub overflow_add-end : goal.overflow_add-end
overflow_add-end c = let r = room c.args.base c.loop-region.end c.args.regions.now c.loop-region.region-index (region Stack 0)
    c.requires c.loop-region.invariant.at c.loop-region-test.true in omega (arith, r)

pub loop-region-preserved : goal.loop-region-preserved
loop-region-preserved c = record {
  at = end_more c.args.base c.loop-region.end c.args.regions.now c.loop-region.region-index (region Stack 0)
      c.loop-region.invariant.at c.loop-region-test.true;
  rest = starts_more c.args.base c.loop-region.end c.args.regions.now c.loop-region.region-index (region Stack 0)
      c.loop-region.starts _ c.loop-region.invariant.at c.loop-region-test.true c.loop-region.invariant.rest
      c.in_ok-push.ensures.ok;
}
