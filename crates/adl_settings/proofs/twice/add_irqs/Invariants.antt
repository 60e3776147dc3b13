use Rattle.adl_settings.proofs.Common.{drop, irqs_in, ◌++◌, ◌≡◌}
use Rattle.adl_settings.proofs.twice.add_irqs.Given as goal

abbrev pub invariant-loop-end : goal.invariant-loop-end
invariant-loop-end l = l.irqs.items ++ irqs_in (drop l.end-index l.ends) ≡ l.fn.irqs.items ++ irqs_in l.ends
