-- Who has a label: each domain; each device, by its leaf; and each connection that has an endpoint, a notification or frames
-- of its own. A label is written as the names of its path, joined by dots.
use Rattle.std.specs.Prelude.{ℕ, Bool, true, false, List, [], ◌∷◌, ◌++◌, Option, Some, None, slice_get}
use Rattle.arch_policy.specs.Below.{Connector, Direct, Domain, Flat, FlatConnection, Interrupt, Leaf, Mmio, Notification, Rpc, SharedMemory, gather, joined, option_map_or}
use Rattle.arch_policy.specs.declared.owner.Owner.{Owner}
use Rattle.arch_policy.specs.declared.owner.Owner.TheVariants.{OfDomain, OfLeaf}
use Rattle.arch_policy.specs.Where.{where_true}

abbrev pub has_label : Connector → Bool
has_label Rpc = true
has_label Notification = true
has_label SharedMemory = true
has_label Interrupt = true
has_label Mmio = false
has_label Direct = false

-- a leaf without a domain is a device
abbrev pub is_device : Option ℕ → Bool
is_device None = true
is_device (Some d) = false

abbrev pub domain_texts : List Domain → List (List ℕ)
domain_texts domains = gather (λ d x. joined x.path ∷ []) domains

abbrev pub device_texts : List Leaf → List (List ℕ)
device_texts leaves = gather (λ l x. where_true (is_device x.domain) (joined x.path)) leaves

abbrev pub connection_texts : List FlatConnection → List (List ℕ)
connection_texts connections = gather (λ k c. where_true (has_label c.connector) (joined c.path)) connections

-- the texts of all labels
abbrev pub texts : Flat → List (List ℕ)
texts flat = domain_texts flat.domains ++ (device_texts flat.leaves ++ connection_texts flat.connections)

-- ---- whose a leaf is: its domain's, or as a device its own

abbrev pub owner_in : ℕ → Option ℕ → Owner
owner_in leaf None = OfLeaf leaf
owner_in leaf (Some d) = OfDomain d

abbrev pub leaf_owner : Flat → ℕ → Owner
leaf_owner flat leaf = option_map_or (λ x. owner_in leaf x.domain) (slice_get flat.leaves leaf) (OfLeaf leaf)
