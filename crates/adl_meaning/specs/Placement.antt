-- Placement stands at the name of a device's instance where the device is below a group, and at the name of a connection
-- of direct calls whose ends aren't all in one domain.
use Rattle.std.specs.Prelude.{ℕ, ◌==◌, Bool, true, false, ◌&&◌, not, List, [], ◌∷◌, ◌++◌, Option, Some, None, is_some}
use Rattle.adl_meaning.specs.Below.{Fault, flat_map, list_all, option_and_then, slice_get}
use Rattle.cam_base.specs.declared.code.Code.TheVariants as code
use Rattle.adl_meaning.specs.declared.connector.Connector.{Connector}
use Rattle.adl_meaning.specs.declared.connector.Connector.TheVariants.{Rpc, Notification, SharedMemory, Mmio, Interrupt, Direct}
use Rattle.adl_meaning.specs.declared.flat.Flat.{Flat}
use Rattle.adl_meaning.specs.declared.flat.FlatEnd.{FlatEnd}
use Rattle.adl_meaning.specs.Domains.{group_above, is_hardware}
use Rattle.adl_meaning.specs.Faults.{at_word, where_true}
use Rattle.adl_meaning.specs.Flat.{flattened, flat_ends}
use Rattle.adl_meaning.specs.Hierarchy.{Hierarchy, top_number}
use Rattle.adl_meaning.specs.Joins.{Strung, connections}
use Rattle.adl_meaning.specs.Paths.{Placed, leaves}

abbrev pub misplaced_device : Hierarchy → Placed → List Fault
misplaced_device h x = where_true (is_hardware h x.part && is_some (group_above h (top_number h) x.path))
    (at_word code.Placement x.part.instance.id)

-- the domain of the leaf that an end joins
abbrev pub domain_at : Flat → FlatEnd → Option ℕ
domain_at flat e = option_and_then (λ l. l.domain) (slice_get flat.leaves e.leaf)

abbrev pub same_domain : Option ℕ → Option ℕ → Bool
same_domain (Some a) (Some b) = a == b
same_domain (Some a) None = false
same_domain None b = false

-- whether all ends are in the domain of the first
abbrev pub in_one_domain : Flat → List FlatEnd → Bool
in_one_domain flat [] = true
in_one_domain flat (e ∷ es) = list_all (λ f. same_domain (domain_at flat f) (domain_at flat e)) (e ∷ es)

abbrev pub is_direct : Connector → Bool
is_direct Direct = true
is_direct Rpc = false
is_direct Notification = false
is_direct SharedMemory = false
is_direct Mmio = false
is_direct Interrupt = false

abbrev pub parted_call : Hierarchy → Flat → Strung → List Fault
parted_call h flat x = where_true (is_direct x.wire.0 && not (in_one_domain flat (flat_ends h x)))
    (at_word code.Placement x.wire.1.id)

abbrev pub misplaced_in : Hierarchy → List Fault
misplaced_in h = flat_map (misplaced_device h) (leaves h) ++ flat_map (parted_call h (flattened h)) (connections h)
