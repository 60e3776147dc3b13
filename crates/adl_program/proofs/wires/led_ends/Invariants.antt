use Rattle.adl_program.proofs.Common.{drop, led_end, map, ◌++◌, ◌≡◌}
use Rattle.adl_program.proofs.wires.led_ends.Given as goal

abbrev pub invariant-loop-end : goal.invariant-loop-end
invariant-loop-end l = l.led.items ++ map (led_end l.bodies l.number) (drop l.end-index l.ends) ≡ map (led_end l.bodies l.number)
    l.ends
