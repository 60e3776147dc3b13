use Rattle.cam_io.proofs.Common.{◌+◌, ◌∙◌}
use Rattle.cam_io.proofs.Seeing.{learns_on}
use Rattle.cam_io.proofs.seen.Seen.see.Goals as goal

pub loop-chunk-init : goal.loop-chunk-init
loop-chunk-init c = record {
  name = c.begin.ensures.name;
  grows = c.begin.ensures.grows;
  learns = c.begin.ensures.learns (c.args.limit + 1);
}

pub loop-chunk-preserved : goal.loop-chunk-preserved
loop-chunk-preserved c = record {
  name = c.read_within.ensures.name ∙ c.loop-chunk.invariant.name;
  grows = λ file h. c.loop-chunk.invariant.grows file (c.read_within.ensures.grows file h);
  learns = learns_on c.args.self.now c.loop-chunk.self c.read_within.new.self (c.args.limit + 1) c.loop-chunk.invariant.learns
      c.read_within.ensures.grows c.read_within.ensures.learns;
}

pub returns-in_err-read_within-clause-learns : goal.returns-in_err-read_within-clause-learns
returns-in_err-read_within-clause-learns c =
    learns_on c.args.self.now c.loop-chunk.self c.read_within.new.self (c.args.limit + 1) c.loop-chunk.invariant.learns
    c.read_within.ensures.grows c.read_within.ensures.learns
