-- Ends and their settings by number.
use Rattle.std.specs.Prelude.{ℕ, Option, slice_get, option_map}
use Rattle.cspace_layout.specs.Below.{Connector, Flat, FlatConnection, FlatEnd, Settled, option_and_then}
use Rattle.adl_meaning.specs.declared.settled.EndSetting.{EndSetting}

abbrev pub end_in : ℕ → FlatConnection → Option (Connector × FlatEnd)
end_in n c = option_map (λ e. (c.connector, e)) (slice_get c.ends n)

-- end n of connection k, with its connector
abbrev pub end_of : Flat → ℕ → ℕ → Option (Connector × FlatEnd)
end_of flat k n = option_and_then (end_in n) (slice_get flat.connections k)

abbrev pub setting_of : Settled → ℕ → ℕ → Option EndSetting
setting_of settled k n = option_and_then (λ s. slice_get s.ends n) (slice_get settled.connections k)
