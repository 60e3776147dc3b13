use Rattle.cam_io.proofs.Common.{Grows, Learns, length, wanted, ◌+◌, ◌≡◌}
use Rattle.cam_io.proofs.seen.Seen.see.Given as goal

abbrev pub invariant-loop-chunk : goal.invariant-loop-chunk
invariant-loop-chunk l = record {
  name : l.self.name ≡ l.fn.self.name;
  grows : Grows l.fn.self l.self;
  learns : Learns l.fn.self l.self (l.limit + 1);
}

abbrev pub decreases-loop-chunk : goal.decreases-loop-chunk
decreases-loop-chunk l = wanted l.self.extent (length l.self.bytes.items) l.limit
