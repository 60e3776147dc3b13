-- What the slots of a domain are for, in order, from slot 1 on: for each leaf of the domain, first its ends, by the
-- interface that they join and then by connection, and then its locks. An end of an RPC or a notification has one slot.
-- The `to` end of an interrupt has two: one for the notification, and then one for the interrupt. No other end has any.
use Rattle.std.specs.Prelude.{ℕ, if◌then◌else◌, List, [], ◌∷◌, ◌++◌, map, Option, Some, None}
use Rattle.cspace_layout.specs.Below.{Connector, Flat, FlatConnection, FlatEnd, gather}
use Rattle.adl_ast.specs.declared.component.Member.{Member}
use Rattle.adl_ast.specs.declared.composition.Role.{Role}
use Rattle.adl_ast.specs.declared.composition.Role.TheVariants.{From, To}
use Rattle.adl_ast.specs.declared.source.Source.{Source}
use Rattle.adl_meaning.specs.declared.connector.Connector.TheVariants.{Rpc, Notification, SharedMemory, Mmio, Interrupt, Direct}
use Rattle.cspace_layout.specs.LeafEnds.{joins}
use Rattle.cspace_layout.specs.Members.{leaf_members, is_lock}
use Rattle.cspace_layout.specs.declared.plan.SlotUse.{SlotUse}
use Rattle.cspace_layout.specs.declared.plan.SlotUse.TheVariants.{OfEnd, Handler, OwnLock}
use Rattle.cspace_layout.specs.declared.plan.SlotPlan.{SlotPlan}
use Rattle.cspace_layout.specs.declared.plan.Slots.{Slots}
use Rattle.cspace_layout.specs.declared.end_at.EndAt.{EndAt}
use Rattle.cspace_layout.specs.Lookups.{end_of}
use Rattle.cspace_layout.specs.System.{System}

-- what end n of connection k has slots for
abbrev pub end_uses : Connector → Role → ℕ → ℕ → List SlotUse
end_uses Rpc role k n = OfEnd k n ∷ []
end_uses Notification role k n = OfEnd k n ∷ []
end_uses Interrupt To k n = OfEnd k n ∷ Handler k n ∷ []
end_uses Interrupt From k n = []
end_uses SharedMemory role k n = []
end_uses Mmio role k n = []
end_uses Direct role k n = []

abbrev pub joined_uses : ℕ → ℕ → ℕ → Connector → ℕ → FlatEnd → List SlotUse
joined_uses leaf member k connector n e = if joins leaf member e then end_uses connector e.role k n else []

-- of an interface: by connection, and then by end
abbrev pub member_uses : List FlatConnection → ℕ → ℕ → List SlotUse
member_uses connections leaf member = gather (λ k c. gather (λ n e. joined_uses leaf member k c.connector n e) c.ends) connections

abbrev pub lock_uses : ℕ → ℕ → Member → List SlotUse
lock_uses leaf member m = if is_lock m then OwnLock leaf member ∷ [] else []

-- of a leaf: by interface, and then its locks
abbrev pub leaf_uses : List FlatConnection → ℕ → List Member → List SlotUse
leaf_uses connections leaf members = gather (λ m x. member_uses connections leaf m) members
    ++ gather (λ m x. lock_uses leaf m x) members

-- of leaves, one behind another
abbrev pub domain_uses : Source → Flat → List ℕ → List SlotUse
domain_uses source flat leaves = gather (λ i leaf. leaf_uses flat.connections leaf (leaf_members source flat leaf)) leaves

abbrev pub plan_of : List SlotUse → SlotPlan
plan_of uses = record { uses = uses }

-- the slots of all domains
abbrev pub slots_of : Source → Flat → Slots
slots_of source flat = record { domains = map (λ d. plan_of (domain_uses source flat d.leaves)) flat.domains }

abbrev pub uses_by : Option (Connector × FlatEnd) → EndAt → List SlotUse
uses_by None at = []
uses_by (Some found) at = end_uses found.0 found.1.role at.connection at.end

abbrev pub uses_at : Flat → EndAt → List SlotUse
uses_at flat at = uses_by (end_of flat at.connection at.end) at

-- of the leaf with this number
abbrev pub uses_of : System → ℕ → List SlotUse
uses_of s leaf = leaf_uses s.flat.connections leaf (leaf_members s.source s.flat leaf)
