use Rattle.adl_settings.proofs.SettleCommon.{IsTable, SettingTable, drop, enumerate_from, flat_map, get_or, length, noted, repeated_in, settings_twice, ℕ, ◌<◌, ◌≡◌}
use Rattle.adl_settings.proofs.TableSteps.{all_bodies}
use Rattle.std.specs.Prelude.{vec_capacity, vec_len}
use Rattle.adl_settings.proofs.tables.setting_tables.Given as goal

abbrev pub invariant-loop-number : goal.invariant-loop-number
invariant-loop-number l = record {
  count : vec_len l.tables ≡ l.number;
  room : vec_capacity l.tables ≡ length l.bodies.bodies;
  so_many : length l.tables.items ≡ l.number;
  each : (k : ℕ) → k < l.number → (t : SettingTable) → IsTable l.bodies k (get_or l.tables.items k t);
  twice : noted l.first (flat_map (repeated_in l.bodies) (enumerate_from l.number (drop l.number (all_bodies l.bodies)))) ≡ noted
      l.fn.first (settings_twice l.bodies);
}
