use Rattle.domain_table.proofs.Common.{flat_map, named, take, thread_line, ◌≡◌}
use Rattle.domain_table.proofs.domain.NamedDomain.threads.Given as goal

abbrev pub invariant-loop-line : goal.invariant-loop-line
invariant-loop-line l = l.rows ≡ flat_map (thread_line (named l.self.names) l.self.number) (take l.line-index l.lines)
