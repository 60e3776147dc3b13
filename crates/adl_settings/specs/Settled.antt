-- The settings of all leaves and of the ends of all connections, in the order of the flat system. A leaf of software has a
-- priority, 254 by default, and the bytes of a stack, 16,384 by default; a device has 0 for both. Where no fault of settings
-- stands, each of these is what its setting means.
use Rattle.adl_meaning.specs.Prelude.{Given, Hierarchy, Source, flat_of, hierarchy_of, value_at}
use Rattle.std.specs.Prelude.{List, Option, codes, if◌then◌else◌, map, not, unwrap_or}
use Rattle.adl_settings.specs.Words.{Flat, Leaf, Settled}
use Rattle.adl_meaning.specs.declared.settled.EndSettings.{EndSettings}
use Rattle.adl_meaning.specs.declared.settled.LeafSetting.{LeafSetting}
use Rattle.adl_settings.specs.Allowed.{priority_in, stack_in}
use Rattle.adl_settings.specs.EndMeaning.{end_setting}
use Rattle.adl_settings.specs.Joints.{Found, founds_in}
use Rattle.adl_settings.specs.Meant.{meant, where_set}

-- ---- leaves

-- the values of a leaf's settings
pub record LeafFound : Type 0 where
  pub leaf : Leaf
  pub priority : Option Given
  pub stack : Option Given

abbrev pub leaf_found : Hierarchy → Leaf → LeafFound
leaf_found h l = record {
  leaf = l;
  priority = where_set (not l.hardware) (value_at h l.path (codes "_priority"));
  stack = where_set (not l.hardware) (value_at h l.path (codes "_stack_size"));
}

abbrev pub leaf_setting : LeafFound → LeafSetting
leaf_setting f = record {
  priority = if f.leaf.hardware then 0 else unwrap_or (meant priority_in 254 f.priority) 0;
  stack = if f.leaf.hardware then 0 else unwrap_or (meant stack_in 16384 f.stack) 0;
}

abbrev pub leaves_found : Hierarchy → Flat → List LeafFound
leaves_found h flat = map (leaf_found h) flat.leaves

-- ---- all

abbrev pub end_settings : List Found → EndSettings
end_settings fs = record { ends = map end_setting fs }

-- those that are meant by the values of leaves and of the ends of connections
abbrev pub settled_from : List LeafFound → List (List Found) → Settled
settled_from leaves connections = record { leaves = map leaf_setting leaves; connections = map end_settings connections }

abbrev pub settled_of : Source → Settled
settled_of s = settled_from (leaves_found (hierarchy_of s) (flat_of s)) (founds_in (hierarchy_of s) s (flat_of s))
