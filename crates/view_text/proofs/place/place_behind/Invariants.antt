use Rattle.view_text.proofs.Common.{place_behind, take, ◌+◌, ◌≡◌, ◌≤◌}
use Rattle.view_text.proofs.place.place_behind.Given as goal

abbrev pub invariant-loop-byte : goal.invariant-loop-byte
invariant-loop-byte l = record {
  place : l.place ≡ place_behind (take l.byte-index l.bytes);
  line : 1 ≤ l.place.line;
  column : 1 ≤ l.place.column;
  few : l.place.line ≤ l.byte-index + 1;
  within : l.place.column ≤ l.byte-index + 1;
}
