use Rattle.system_spec.proofs.Common.{domain_tables, gather, take, told, ◌≡◌}
use Rattle.system_spec.proofs.levels.all_tables.Given as goal

abbrev pub invariant-loop-number : goal.invariant-loop-number
invariant-loop-number l = l.all ≡ gather (domain_tables (told l.tables)) (take l.number l.tables.flat.now.domains)
