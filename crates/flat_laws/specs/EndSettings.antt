-- Each end has its settings: there are as many connections with settings as connections, as many settings at each connection
-- as ends, and end n of connection k has the n-th settings of the k-th. They are what the values mean that are found at the
-- leaf and the interface that the end joins, where a `from` end counts by its position among the `from` ends.
use Rattle.std.specs.Prelude.{◌≡◌, ℕ, Some, length, slice_get}
use Rattle.adl_ast.specs.declared.component.Member.TheVariants as members
use Rattle.adl_meaning.specs.Prelude.{Source, flat_of, hierarchy_of}
use Rattle.adl_meaning.specs.declared.flat.FlatConnection.{FlatConnection}
use Rattle.adl_meaning.specs.declared.flat.FlatEnd.{FlatEnd}
use Rattle.adl_meaning.specs.declared.settled.EndSettings.{EndSettings}
use Rattle.adl_settings.specs.EndMeaning.{end_setting}
use Rattle.adl_settings.specs.Joints.{Joint, found_at, positioned}
use Rattle.adl_settings.specs.Settled.{settled_of}
use Rattle.cspace_layout.specs.Lookups.{setting_of}
use Rattle.cspace_layout.specs.Members.{members_at}

-- end n of connection k, with all that its settings are found at
pub record IsSettledEnd (s : Source) (k n : ℕ) (c : FlatConnection) (e : FlatEnd) : Type 0 where
  pub joint : Joint
  pub connection : joint.connection ≡ c
  pub end : joint.end ≡ e
  pub position : slice_get (positioned c.ends) n ≡ Some (joint.position, e)
  pub leaf : slice_get (flat_of s).leaves e.leaf ≡ Some joint.leaf
  pub interface : slice_get (members_at s joint.leaf.component) e.member ≡ Some (members.Interface joint.interface)
  pub settings : setting_of (settled_of s) k n ≡ Some (end_setting (found_at (hierarchy_of s) joint))

-- as many settings at connection k as it has ends
pub record HasAsManySettings (s : Source) (k : ℕ) (c : FlatConnection) : Type 0 where
  pub settings : EndSettings
  pub there : slice_get (settled_of s).connections k ≡ Some settings
  pub as_many : length settings.ends ≡ length c.ends

pub record AreEndsSettled (s : Source) : Type 0 where
  pub connections : length (settled_of s).connections ≡ length (flat_of s).connections
  pub ends : (k : ℕ) (c : FlatConnection) → slice_get (flat_of s).connections k ≡ Some c → HasAsManySettings s k c
  pub each : (k n : ℕ) (c : FlatConnection) (e : FlatEnd) → slice_get (flat_of s).connections k ≡ Some c
      → slice_get c.ends n ≡ Some e
      → IsSettledEnd s k n c e
