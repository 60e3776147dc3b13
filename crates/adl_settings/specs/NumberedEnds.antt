-- The settings of an end by the numbers of its connection and of the end in it, and what they are found at.
use Rattle.adl_meaning.specs.Prelude.{Hierarchy, Source, option_and_then}
use Rattle.std.specs.Prelude.{Bool, Option, Some, is_some, slice_get, ℕ, ◌≡◌}
use Rattle.adl_settings.specs.Words.{EndSetting, Flat, FlatConnection, FlatEnd, Settled}
use Rattle.adl_settings.specs.Joints.{Found, found_at, interface_at}

abbrev pub joins_interface : Source → Flat → FlatEnd → Bool
joins_interface s flat e = is_some (option_and_then (λ leaf. interface_at s leaf e.member) (slice_get flat.leaves e.leaf))

-- the settings of end n of connection k
abbrev pub setting_at : Settled → ℕ → ℕ → Option EndSetting
setting_at x k n = option_and_then (λ c. slice_get c.ends n) (slice_get x.connections k)

-- the values are those of this end of the connection, at the leaf and the interface that it joins
pub record IsFoundAt (h : Hierarchy) (s : Source) (flat : Flat) (k : FlatConnection) (e : FlatEnd) (f : Found) : Type 0 where
  pub connection : f.joint.connection ≡ k
  pub end : f.joint.end ≡ e
  pub leaf : slice_get flat.leaves e.leaf ≡ Some f.joint.leaf
  pub interface : interface_at s f.joint.leaf e.member ≡ Some f.joint.interface
  pub values : f ≡ found_at h f.joint
