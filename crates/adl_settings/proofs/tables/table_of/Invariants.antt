use Rattle.adl_settings.proofs.SettleCommon.{Name, Path, [], body, drop, find, is_some, noted, option_or, repeated_after, repeated_in, sets, setting_found, setting_of, ◌++◌, ◌∷◌, ◌≡◌}
use Rattle.adl_settings.proofs.tables.table_of.Given as goal

abbrev pub invariant-loop-setting : goal.invariant-loop-setting
invariant-loop-setting l = record {
  found : (p : Path) (x : Name)
      → option_or (setting_found l.settings (p ++ x ∷ []))
      (find (sets l.bodies l.number p x) (drop l.setting-index l.setting-items)) ≡ setting_of l.bodies l.number p x;
  twice : noted l.first (repeated_after l.bodies l.number (λ p n. is_some (setting_found l.settings (p ++ n ∷ [])))
      (drop l.setting-index l.setting-items)) ≡ noted l.fn.first (repeated_in l.bodies (l.number, body l.bodies l.number));
}
