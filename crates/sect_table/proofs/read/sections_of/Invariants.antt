use Rattle.sect_table.proofs.Common.{None, headers_fault, headers_left, length, sections_of_all, ◌++◌, ◌≡◌, ◌≤◌}
use Rattle.sect_table.proofs.read.sections_of.Given as goal

abbrev pub invariant-loop-header : goal.invariant-loop-header
invariant-loop-header l = record {
  sound : headers_fault (length l.fn.headers.bytes.now) (headers_left l.header-iterator) ≡ None;
  sections : l.sections ++ sections_of_all (headers_left l.header-iterator) ≡ sections_of_all (headers_left l.fn.headers);
  few : length l.sections ≤ 256;
}
