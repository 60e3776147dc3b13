use Rattle.adl_settings.proofs.SettleCommon.{drop, pointed, ◌++◌, ◌≡◌}
use Rattle.adl_settings.proofs.search.key_of.Given as goal

abbrev pub invariant-loop-part : goal.invariant-loop-part
invariant-loop-part l = pointed l.key.items ++ drop l.part-index l.path ≡ l.path
