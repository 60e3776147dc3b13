-- A flat system, told by the relations of a hierarchy alone: which component stands at a path, what is the outermost group
-- above a path, up to which name an interface climbs, what an end joins. No definition here walks down the hierarchy.
--
-- Instances of a composition count in the order of its lines, those of a group in the place of the group. A composite's
-- leaves and connections stand where the composite stands among the instances; connections of a composition stand in front
-- of those of its instances.
use Rattle.std.specs.Prelude.{◌≡◌, ◌<◌, ◌⊎◌, ◌↔◌, ℕ, true, false, [], ◌∷◌, ◌++◌, map, length, None, Some}
use Rattle.adl_ast.specs.declared.component.Member.TheVariants as members
use Rattle.adl_meaning.specs.declared.flat.Domain.{Domain}
use Rattle.adl_meaning.specs.declared.flat.Flat.{Flat}
use Rattle.adl_meaning.specs.declared.flat.FlatConnection.{FlatConnection}
use Rattle.adl_meaning.specs.declared.flat.FlatEnd.{FlatEnd}
use Rattle.adl_meaning.specs.declared.flat.Leaf.{Leaf}
use Rattle.adl_meaning.specs.Prelude.{Component, End, Hierarchy, Interface, IsIn, IsLeaf, Joins, Name, Part, Path, Wire, at, body, is_composite, is_hardware, name_of, part_named, slice_get, top_number, wires_of}
use Rattle.adl_hierarchy.specs.Once.{IsOnce}
use Rattle.adl_hierarchy.specs.OutermostGroup.{IsOutermostGroup}
use Rattle.adl_hierarchy.specs.PartAt.{part_at}
use Rattle.front_laws.specs.InOrder.{InOrder, IsBefore}

-- ---- leaves

-- Of two paths inside body k, at the first names in which they differ, the instance of the one stands first.
pub data IsPathBefore (h : Hierarchy) : ℕ → Path → Path → Type 0 where
  at_names : (k : ℕ) (n m : Name) (p q : Path) → IsBefore (map name_of (body h k).parts) n m → IsPathBefore h k (n ∷ p) (m ∷ q)
  within_one : (k : ℕ) (n : Name) (x : Part) (p q : Path) → part_named (body h k).parts n ≡ Some x → IsPathBefore h x.kind p q
      → IsPathBefore h k (n ∷ p) (n ∷ q)

-- the domain of a path: the outermost group above it, or itself where none is
abbrev pub IsDomainOf : Hierarchy → Path → Path → Type 0
IsDomainOf h p d =
    IsOutermostGroup h (top_number h) p d
    ⊎ (((e : Path) → IsOutermostGroup h (top_number h) p e → ⊥) × (d ≡ p))

-- domain n of the flat system has this path
pub record IsNumbered (f : Flat) (n : ℕ) (d : Path) : Type 0 where
  pub domain : Domain
  pub there : slice_get f.domains n ≡ Some domain
  pub path : domain.path ≡ d

-- A leaf is the instance at its path, of a component without a composition. A device has no domain, any other leaf the
-- number of its path's.
pub record IsLeafOf (h : Hierarchy) (f : Flat) (l : Leaf) : Type 0 where
  pub part : Part
  pub stands : part_at h (top_number h) l.path ≡ Some part
  pub plain : is_composite h part.kind ≡ false
  pub component : (body h part.kind).item ≡ Some l.component
  pub place : l.place ≡ part.instance.component.place
  pub hardware : l.hardware ≡ is_hardware h part
  pub device : l.hardware ≡ true → l.domain ≡ None
  pub domain : l.hardware ≡ false → (n : ℕ) × (d : Path) × (l.domain ≡ Some n) × IsDomainOf h l.path d × IsNumbered f n d

pub record AreLeaves (h : Hierarchy) (f : Flat) : Type 0 where
  pub paths : (p : Path) → IsIn p (map (λ l. l.path) f.leaves) ↔ IsLeaf h (top_number h) p
  pub once : IsOnce (map (λ l. l.path) f.leaves)
  pub order : InOrder (λ l m. IsPathBefore h (top_number h) l.path m.path) f.leaves
  pub each : (l : Leaf) → IsIn l f.leaves → IsLeafOf h f l

-- ---- domains

-- leaf n of the flat system, which is no device, has the domain
pub record IsInside (h : Hierarchy) (f : Flat) (d : Path) (n : ℕ) : Type 0 where
  pub leaf : Leaf
  pub there : slice_get f.leaves n ≡ Some leaf
  pub software : leaf.hardware ≡ false
  pub domain : IsDomainOf h leaf.path d

-- the first leaf of the one domain stands before all leaves of the other
pub record IsDomainBefore (d e : Domain) : Type 0 where
  pub first : ℕ
  pub stands : IsIn first d.leaves
  pub before : (n : ℕ) → IsIn n e.leaves → first < n

pub record AreDomains (h : Hierarchy) (f : Flat) : Type 0 where
  pub paths : (d : Path) → IsIn d (map (λ x. x.path) f.domains) ↔ ((n : ℕ) × IsInside h f d n)
  pub once : IsOnce (map (λ x. x.path) f.domains)
  pub order : InOrder IsDomainBefore f.domains
  pub leaves : (x : Domain) → IsIn x f.domains → (n : ℕ) → IsIn n x.leaves ↔ IsInside h f x.path n
  pub rising : (x : Domain) → IsIn x f.domains → InOrder ◌<◌ x.leaves

-- ---- connections

-- the connection a of the composition at p inside body k stands before the connection b of that at q
pub data IsWireBefore (h : Hierarchy) : ℕ → Path → Name → Path → Name → Type 0 where
  in_one : (k : ℕ) (a b : Name) → IsBefore (map (λ w. w.1.id.name) (wires_of (body h k))) a b → IsWireBefore h k [] a [] b
  outer_first : (k : ℕ) (a b n : Name) (q : Path) → IsWireBefore h k [] a (n ∷ q) b
  by_instances : (k : ℕ) (n m a b : Name) (p q : Path) → IsBefore (map name_of (body h k).parts) n m
      → IsWireBefore h k (n ∷ p) a (m ∷ q) b
  deeper : (k : ℕ) (n a b : Name) (x : Part) (p q : Path) → part_named (body h k).parts n ≡ Some x → IsWireBefore h x.kind p a q b
      → IsWireBefore h k (n ∷ p) a (n ∷ q) b

-- End n of the connection w of the composition at q: at the leaf and the interface that it joins. The interface is told by
-- its place among the members of the leaf's component, the first of the name.
pub record IsEndOf (h : Hierarchy) (f : Flat) (q : Path) (w : Wire) (n : ℕ) (e : FlatEnd) : Type 0 where
  pub end : End
  pub numbered : slice_get w.1.ends n ≡ Some end
  pub place : e.place ≡ end.place
  pub leaf : Leaf
  pub there : slice_get f.leaves e.leaf ≡ Some leaf
  pub interface : Name
  pub joins : Joins h q w n e.role leaf.path interface
  pub part : Part
  pub stands : part_at h (top_number h) leaf.path ≡ Some part
  pub component : Component
  pub of_leaf : (body h part.kind).component ≡ Some component
  pub member : Interface
  pub named : member.id.name ≡ interface
  pub placed : slice_get component.members e.member ≡ Some (members.Interface member)
  pub first : (k : ℕ) (m : Interface) → k < e.member → slice_get component.members k ≡ Some (members.Interface m)
      → m.id.name ≡ interface → ⊥

-- the flat connection is the connection w of the composition at q
pub record IsWireOf (h : Hierarchy) (f : Flat) (c : FlatConnection) (q : Path) (w : Wire) : Type 0 where
  pub inside : ℕ
  pub there : at h (top_number h) q ≡ Some inside
  pub stands : IsIn w (wires_of (body h inside))
  pub path : c.path ≡ q ++ w.1.id.name ∷ []
  pub connector : c.connector ≡ w.0
  pub place : c.place ≡ w.1.id.place
  pub as_many : length c.ends ≡ length w.1.ends
  pub ends : (n : ℕ) (e : FlatEnd) → slice_get c.ends n ≡ Some e → IsEndOf h f q w n e

pub record IsConnectionBefore (h : Hierarchy) (c d : FlatConnection) : Type 0 where
  pub path : Path
  pub name : Name
  pub first : c.path ≡ path ++ name ∷ []
  pub other_path : Path
  pub other_name : Name
  pub second : d.path ≡ other_path ++ other_name ∷ []
  pub before : IsWireBefore h (top_number h) path name other_path other_name

pub record AreConnections (h : Hierarchy) (f : Flat) : Type 0 where
  pub each : (c : FlatConnection) → IsIn c f.connections → (q : Path) × (w : Wire) × IsWireOf h f c q w
  pub all : (q : Path) (k : ℕ) (w : Wire) → at h (top_number h) q ≡ Some k → IsIn w (wires_of (body h k))
      → (c : FlatConnection) × IsIn c f.connections × IsWireOf h f c q w
  pub once : IsOnce (map (λ c. c.path) f.connections)
  pub order : InOrder (IsConnectionBefore h) f.connections

-- ---- all

pub record IsByHierarchy (h : Hierarchy) (f : Flat) : Type 0 where
  pub leaves : AreLeaves h f
  pub domains : AreDomains h f
  pub connections : AreConnections h f
