use Rattle.sect_table.proofs.Common.{headers_fault, headers_left, length, ◌≡◌}
use Rattle.sect_table.proofs.first_fault.headers_fault.Given as goal

abbrev pub invariant-loop-header : goal.invariant-loop-header
invariant-loop-header l = headers_fault (length l.fn.headers.bytes.now) (headers_left l.header-iterator) ≡ headers_fault
    (length l.fn.headers.bytes.now) (headers_left l.fn.headers)
