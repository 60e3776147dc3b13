use Rattle.adl_settings.proofs.Common.{drop, flat_map, irq_twice_at, is_repeated, map, noted, irqs_twice, ◌≡◌}
use Rattle.adl_settings.proofs.twice.note_irqs_twice.Given as goal

abbrev pub invariant-loop-irq : goal.invariant-loop-irq
invariant-loop-irq l =
    noted l.first (flat_map (irq_twice_at (is_repeated (map (λ a. a.number) l.irqs))) (drop l.irq-index l.irqs)) ≡ noted
    l.fn.first (irqs_twice l.irqs)
