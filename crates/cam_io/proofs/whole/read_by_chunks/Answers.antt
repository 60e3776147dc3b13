use Rattle.cam_io.proofs.Common.{Bytes, IsGot, arith, get, length-append, length-take, subst, sym, ◌+◌}
use Rattle.cam_io.proofs.Fronts.{IsFront, front_more}
use Rattle.cam_io.proofs.Kept.{keeps_twice}
use Rattle.cam_io.proofs.Learning.{learned_more}
use Rattle.cam_io.proofs.whole.read_by_chunks.Goals as goal

pub returns-in_err-read_front-clause-learned : goal.returns-in_err-read_front-clause-learned
returns-in_err-read_front-clause-learned g c =
    learned_more g.F.Files.told g.F.Files.faults c.args.files.now c.loop-whole.files c.read_front.new.files c.args.name.now
    (c.len-at.result + c.lent_room-room.result) (c.args.limit + 1) c.loop-whole.invariant.learned
    c.read_front.ensures.kept c.read_front.ensures.learned
    (omega (arith, c.len-at.ensures, c.lent_room-room.ensures, c.loop-whole.invariant.within))

pub loop-whole-preserved : goal.loop-whole-preserved
loop-whole-preserved g c = record {
  within = rw (c.in_ok-extend-in-Bytes.ensures.ok, length-append, length-take)
      (omega (arith, c.if-taken-limit.false, c.len-at.ensures, c.loop-whole.invariant.within));
  kept = keeps_twice c.args.files.now c.loop-whole.files c.read_front.new.files c.loop-whole.invariant.kept
      c.read_front.ensures.kept;
  so_far = λ m told. subst (λ l. IsFront (get m c.args.name.now) l) (sym c.in_ok-extend-in-Bytes.ensures.ok)
      (front_more (get m c.args.name.now) c.loop-whole.whole c.read_front.new.chunk c.in-Bytes.taken
      (c.loop-whole.invariant.so_far m (c.read_front.ensures.kept.told_still m told))
      (subst (λ n. IsGot (get m c.args.name.now) n c.read_front.new.chunk (Bytes c.in-Bytes.taken)) c.len-at.ensures
      (subst (λ got. IsGot (get m c.args.name.now) c.len-at.result c.read_front.new.chunk got) c.in-Bytes.is
      (c.in_ok-read_front.ensures.got m told))));
  learned = learned_more g.F.Files.told g.F.Files.faults c.args.files.now c.loop-whole.files c.read_front.new.files
      c.args.name.now
      (c.len-at.result + c.lent_room-room.result) (c.args.limit + 1) c.loop-whole.invariant.learned
      c.read_front.ensures.kept c.read_front.ensures.learned
      (omega (arith, c.len-at.ensures, c.lent_room-room.ensures, c.loop-whole.invariant.within));
}

pub returns-in_err-extend-in-Bytes-clause-learned : goal.returns-in_err-extend-in-Bytes-clause-learned
returns-in_err-extend-in-Bytes-clause-learned g c =
    learned_more g.F.Files.told g.F.Files.faults c.args.files.now c.loop-whole.files c.read_front.new.files c.args.name.now
    (c.len-at.result + c.lent_room-room.result) (c.args.limit + 1) c.loop-whole.invariant.learned
    c.read_front.ensures.kept c.read_front.ensures.learned
    (omega (arith, c.len-at.ensures, c.lent_room-room.ensures, c.loop-whole.invariant.within))
