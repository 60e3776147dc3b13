use Rattle.cam_io.proofs.Common.{Grows, Learns, length, wanted, ◌+◌, ◌≡◌}
use Rattle.cam_io.proofs.seen.Seen.reach.Given as goal

abbrev pub invariant-loop-self : goal.invariant-loop-self
invariant-loop-self l = record {
  name : l.self.name ≡ l.fn.self.name;
  room : length l.buf ≡ length l.fn.buf;
  grows : Grows l.fn.self l.self;
  learns : Learns l.fn.self l.self (l.at + length l.fn.buf);
}

abbrev pub decreases-loop-self : goal.decreases-loop-self
decreases-loop-self l = wanted l.self.extent (length l.self.bytes.items) l.at
