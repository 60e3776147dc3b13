use Rattle.adl_settings.proofs.SettleCommon.{Name, drop, list_any, ◌||◌, ◌≡◌}
use Rattle.adl_settings.proofs.TableSteps.{all_bodies}
use Rattle.adl_settings.specs.Named.{gives, is_named, is_valued}
use Rattle.adl_settings.proofs.names.all_names.Given as goal

abbrev pub invariant-loop-number : goal.invariant-loop-number
invariant-loop-number l = (n : Name) → (is_named l.names.keys n || list_any (gives n) (drop l.number (all_bodies l.bodies)))
    ≡ is_valued l.bodies n
