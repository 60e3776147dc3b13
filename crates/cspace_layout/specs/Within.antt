-- What the order of ends, and the layouts that stand on it, ask of a source and its flat system: there is one assembly,
-- ends and domains name leaves, and leaves, connections, the ends of each connection and the members of each leaf have
-- numbers below 2^32. Whoever has the flat system of a source without faults of names and sizes shows it from what that
-- system is defined as.
use Rattle.std.specs.Prelude.{◌≡◌, ◌<◌, ◌^◌, ℕ, length, slice_get, Some}
use Rattle.cspace_layout.specs.Below.{Flat, FlatConnection, FlatEnd, IsIn, Source, assemblies}
use Rattle.adl_meaning.specs.declared.flat.Domain.{Domain}
use Rattle.cspace_layout.specs.Members.{leaf_members}

pub record IsWithin (source : Source) (flat : Flat) : Type 0 where
  pub assembly : length (assemblies source) ≡ 1
  pub leaves : length flat.leaves < 2 ^ 32
  pub connections : length flat.connections < 2 ^ 32
  pub ends : (k : ℕ) (c : FlatConnection) → slice_get flat.connections k ≡ Some c → length c.ends < 2 ^ 32
  pub joined : (k n : ℕ) (c : FlatConnection) (e : FlatEnd) → slice_get flat.connections k ≡ Some c → slice_get c.ends n ≡ Some e
      → e.leaf < length flat.leaves
  pub members : (leaf : ℕ) → length (leaf_members source flat leaf) < 2 ^ 32
  pub listed : (d leaf : ℕ) (domain : Domain) → slice_get flat.domains d ≡ Some domain → IsIn leaf domain.leaves
      → leaf < length flat.leaves
