-- How many CNodes a spec has, and how many capabilities stand in their slots.
use Rattle.std.specs.Prelude.{ℕ, length, Some}
use Rattle.cap_audit.specs.Below.{Entry, Object, Spec, sum_by}
use Rattle.cap_model.specs.declared.object.Object.TheVariants as objects
use Rattle.cap_audit.specs.Spread.{slots_of}

-- 1 for a CNode, 0 for another object
abbrev pub cnode_count : Object → ℕ
cnode_count (objects.CNode bits slots) = 1
cnode_count _ = 0

-- the capabilities in its slots, where it is a CNode
abbrev pub cap_count : Object → ℕ
cap_count object = length (slots_of (Some object))

abbrev pub cnodes_of : Spec → ℕ
cnodes_of spec = sum_by (λ (entry : Entry). cnode_count entry.object) spec.entries

abbrev pub caps_of : Spec → ℕ
caps_of spec = sum_by (λ (entry : Entry). cap_count entry.object) spec.entries
