-- What contracts see of a state of the machine, and what every such state keeps.
use Rattle.std.specs.Prelude.{◌≡◌, ℕ, ◌+◌, ◌^◌, ◌<◌, ◌≤◌, true, nat_lt, List, slice_index_or}
use Rattle.cap_machine.specs.Below.{AllByRecursion, CNode, Node, Object, State, list_all, no_node}
use Rattle.std.specs.List.Sorted.{IsStrictlySortedBy}
use Rattle.std.specs.Map.{keys_of}
use Rattle.std.specs.Ordering.{nat_cmp}
use Rattle.cap_model.specs.Kept.{rise}

-- a state, and the number of steps since boot
pub record Progress : Type 0 where
  pub state : State
  pub applied : ℕ

-- a CNode's numbers rise, so none stands twice, and lie below its next number
pub record IsNumbered (node : Node) : Type 0 where
  pub rising : IsStrictlySortedBy nat_cmp (keys_of node.slots)
  pub below : AllByRecursion (λ n. n < node.next) (keys_of node.slots)

-- a CNode begins with at most 2^16 numbers, and a step takes at most one of each
pub record NextsFit (nodes : List Node) (applied : ℕ) : Type 0 where
  pub fits : (c : ℕ) → (slice_index_or nodes c no_node).next ≤ 65536 + applied

-- what an object keeps so that its CNode can be made
abbrev pub Bootable : Object → Type 0
Bootable (CNode bits slots) = (bits ≤ 16) × (rise slots ≡ true) × (list_all (λ slot. nat_lt slot.0 (2 ^ bits)) slots ≡ true)
Bootable _ = Unit {0}
