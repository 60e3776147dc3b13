use Rattle.domain_table.proofs.Common.{flat_map, named, take, window_line, ◌≡◌}
use Rattle.domain_table.proofs.domain.NamedDomain.windows.Given as goal

abbrev pub invariant-loop-line : goal.invariant-loop-line
invariant-loop-line l = l.rows ≡ flat_map (window_line (named l.self.names) l.self.number) (take l.line-index l.lines)
