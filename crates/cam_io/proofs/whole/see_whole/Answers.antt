use Rattle.cam_io.proofs.Common.{arith, ◌+◌}
use Rattle.cam_io.proofs.Counts.{rose_after}
use Rattle.cam_io.proofs.Kept.{keeps_twice}
use Rattle.cam_io.proofs.Learning.{learned_more}
use Rattle.cam_io.proofs.whole.see_whole.Goals as goal

pub returns-in-Ok : goal.returns-in-Ok
returns-in-Ok g c = record {
  kept = keeps_twice c.args.files.now c.see.new.self c.know_seen.new.files c.see.ensures.kept c.know_seen.ensures.kept;
  read_fault = λ is. rose_after _ _ _ (c.see.ensures.kept.later c.args.name.now) (c.know_seen.ensures.read_fault is);
  limit = c.know_seen.ensures.limit;
  learned = learned_more g.F.Files.told g.F.Files.faults c.args.files.now c.see.new.self c.know_seen.new.files c.args.name.now
      (c.args.limit + 1) (c.args.limit + 1) c.see.ensures.learned c.know_seen.ensures.kept c.know_seen.ensures.learned
      (omega arith);
  whole = c.know_seen.ensures.whole;
}
