-- The limits of a hierarchy, where none is passed.
use Rattle.adl_hierarchy.proofs.Common.{AreNamesSound, Assembly, ItemAt, Name, None, Source, [], connections, depth, first_size_fault, hierarchy_of, leaves, length, ltb-false, none_in, none_left}
use Rattle.adl_hierarchy.proofs.Common.{none_right, one_assembly, ℕ, rules, ◌≡◌, ◌≤◌}
use Rattle.std.specs.Prelude.{nat_lt}
use Rattle.adl_hierarchy.proofs.Exports.{not_so}
use Rattle.adl_meaning.specs.SizeFaults.{all_ends, limit_passed}
use Rattle.adl_meaning.proofs.Least.{least-empty}

pub record AreInLimits (s : Source) : Type 0 where
  pub depth_is : depth (hierarchy_of s) ≤ 16
  pub leaves_are : length (leaves (hierarchy_of s)) ≤ 1024
  pub connections_are : length (connections (hierarchy_of s)) ≤ 4096
  pub ends_are : length (all_ends (hierarchy_of s)) ≤ 16384

pub not_passed : (a : ItemAt × Assembly) (name : Name) (greatest n : ℕ) → limit_passed a name greatest n ≡ [] → n ≤ greatest
not_passed a name greatest n e = ltb-false greatest n (not_so (nat_lt greatest n) _ e)

pub in_limits : (s : Source) → AreNamesSound s → first_size_fault s ≡ None → AreInLimits s
in_limits s sound e = search (rules, one_assembly, none_in, least-empty, none_left, not_passed, none_right)
