-- Which interface of which leaf an end of a connection joins.
--
-- An interface of a leaf is known in the composition around it under the leaf's name and its own. Where a composition
-- exports it under another name, it is known one level further out under the name of the composite and that name. So it
-- climbs upwards from the leaf, and an end joins the interface that is known by its two words.
use Rattle.std.specs.Prelude.{◌≡◌, ℕ, zero, suc, if◌then◌else◌, List, [], ◌∷◌, ◌++◌, map, length, Option, Some, None, option_map}
use Rattle.adl_meaning.specs.Below.{End, Export, flat_map, option_and_then, slice_get}
use Rattle.adl_ast.specs.declared.composition.Role.{Role}
use Rattle.adl_meaning.specs.Hierarchy.{Hierarchy, Part, Body, Wire, top_number, body, is_composite, part_named, export_named, exports_of, wires_of, port_in}
use Rattle.adl_meaning.specs.Items.{Name}
use Rattle.cam_base.specs.Gather.{IsIn}
use Rattle.adl_meaning.specs.Paths.{Path, at, IsLeaf, name_of}

-- ---- as relations

-- a composition exports the interface j of its instance c under the name i
pub record Exports (b : Body) (c : Name) (j : Name) (i : Name) : Type 0 where
  pub by : Export
  pub stands : IsIn by (exports_of b)
  pub inner : port_in by.words ≡ Some (c, j)
  pub outer : by.target.name ≡ i

-- the interface i of the leaf c.r inside body k is known in it as c.j
abbrev pub Climbs : Hierarchy → ℕ → Name → Path → Name → Name → Type 0
Climbs h k c [] i j = i ≡ j
Climbs h k c (n ∷ r) i j =
    (x : Part) × (part_named (body h k).parts c ≡ Some x) × (m : Name) × Climbs h x.kind n r i m × Exports (body h x.kind) n m j

-- end number n of the connection w in the composition at q has this role, and joins the interface i of the leaf p
pub record Joins (h : Hierarchy) (q : Path) (w : Wire) (n : ℕ) (role : Role) (p : Path) (i : Name) : Type 0 where
  pub inside : ℕ
  pub there : at h (top_number h) q ≡ Some inside
  pub stands : IsIn w (wires_of (body h inside))
  pub end : End
  pub numbered : slice_get w.1.ends n ≡ Some end
  pub role_is : end.role ≡ role
  pub part : Name
  pub interface : Name
  pub words : port_in end.words ≡ Some (part, interface)
  pub rest : Path
  pub path : p ≡ q ++ part ∷ rest
  pub leaf : IsLeaf h (top_number h) p
  pub climbs : Climbs h inside part rest i interface

-- ---- as a search downwards

-- an interface of a leaf: its path, its instance and the name of the interface
pub record Reached : Type 0 where
  pub path : Path
  pub part : Part
  pub interface : Name

abbrev pub behind : Name → Reached → Reached
behind n r = record r { path = n ∷ r.path }

-- the interface j of an instance: its own, or the one that its composition exports under the name, which f finds
abbrev pub reached_by : Hierarchy → (ℕ → Name × Name → Option Reached) → Name → Part → Option Reached
reached_by h f j x =
    if is_composite h x.kind
    then option_map (behind (name_of x))
    (option_and_then (f x.kind) (option_and_then (λ e. port_in e.words) (export_named (exports_of (body h x.kind)) j)))
    else Some (record { path = name_of x ∷ []; part = x; interface = j })

-- the interface of a leaf that c.j means in body k, over at most n levels
abbrev pub reached_within : Hierarchy → ℕ → ℕ → Name × Name → Option Reached
reached_within h zero k port = None
reached_within h (suc n) k port = option_and_then (reached_by h (reached_within h n) port.1) (part_named (body h k).parts port.0)

abbrev pub reached : Hierarchy → ℕ → Name × Name → Option Reached
reached h k port = reached_within h (length h.bodies) k port

-- the interface that an end in body k joins
abbrev pub joined_by : Hierarchy → ℕ → End → Option Reached
joined_by h k e = option_and_then (reached h k) (port_in e.words)

-- ---- a walk to the connections

-- a connection, with the path of its composition and the number of its body
pub record Strung : Type 0 where
  pub path : Path
  pub inside : ℕ
  pub wire : Wire

abbrev pub further : Name → Strung → Strung
further n x = record x { path = n ∷ x.path }

abbrev pub strung : ℕ → Wire → Strung
strung k w = record { path = []; inside = k; wire = w }

abbrev pub strung_by : (ℕ → List Strung) → Part → List Strung
strung_by f x = map (further (name_of x)) (f x.kind)

-- The connections in body k at paths of at most n names: its own in their order, then those of its instances in theirs.
abbrev pub connections_within : Hierarchy → ℕ → ℕ → List Strung
connections_within h zero k = map (strung k) (wires_of (body h k))
connections_within h (suc n) k = map (strung k) (wires_of (body h k)) ++ flat_map (strung_by (connections_within h n))
    (body h k).parts

abbrev pub connections_in : Hierarchy → ℕ → List Strung
connections_in h k = connections_within h (length h.bodies) k

abbrev pub connections : Hierarchy → List Strung
connections h = connections_in h (top_number h)
