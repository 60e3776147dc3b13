-- Faults of types, told by the relations of a hierarchy: by its dotted name an end means the interface of a leaf that climbs
-- up to it. They stand in the bodies of all components, held by the assembly or not, and in that of the assembly:
--
--   Kind at an end whose interface, or whose leaf, isn't what the connector table has for the connector and the role;
--   TypeMismatch at an end whose interface has another type word or size than that of the connection's first end, where the
--     connector has ends of one type;
--   EndCount at the name of a connection that hasn't as many ends of each role as the table allows;
--   TypeMismatch at the name of an interface with a size that is none.
use Rattle.std.specs.Prelude.{◌≡◌, ◌≤◌, ℕ, true, false, List, ◌∷◌, Some}
use Rattle.adl_ast.specs.declared.component.Interface.{Interface}
use Rattle.adl_ast.specs.declared.component.Member.TheVariants as members
use Rattle.cam_base.specs.declared.code.Code.TheVariants as code
use Rattle.adl_meaning.specs.Prelude.{Climbs, Component, End, Fault, Hierarchy, Id, IsIn, IsLeaf, Name, Part, Path, Wire, at_word, body, port_in, top_number, wires_of}
use Rattle.adl_hierarchy.specs.PartAt.{part_at}
use Rattle.adl_program.specs.LeafInterfaces.{LeafInterface, leaf_in}
use Rattle.adl_types.specs.TypeFaults.{at_end, has_one_type, is_kind_of, is_size, may_have, same_type}
use Rattle.conn_rules.specs.Ends.{end_rule}

-- In body k the dotted name means this interface of a leaf: that which climbs up to its two last words.
pub record Means (h : Hierarchy) (k : ℕ) (words : List Id) (l : LeafInterface) : Type 0 where
  pub instance : Name
  pub outer : Name
  pub named : port_in words ≡ Some (instance, outer)
  pub rest : Path
  pub leaf : IsLeaf h k (instance ∷ rest)
  pub interface : Name
  pub climbs : Climbs h k instance rest interface outer
  pub part : Part
  pub stands : part_at h k (instance ∷ rest) ≡ Some part
  pub component : Component
  pub of_leaf : (body h part.kind).component ≡ Some component
  pub declared : leaf_in interface component ≡ Some l

-- a connection of a body, and an end of it
pub record HasWire (h : Hierarchy) (k : ℕ) (w : Wire) : Type 0 where
  pub there : k ≤ top_number h
  pub stands : IsIn w (wires_of (body h k))

pub data IsTypeFault (h : Hierarchy) (f : Fault) : Type 0 where
  another_kind : (k : ℕ) (w : Wire) (e : End) (l : LeafInterface) → HasWire h k w → IsIn e w.1.ends → Means h k e.words l
      → is_kind_of (end_rule w.0 e.role) l ≡ false → f ≡ at_end code.Kind e → IsTypeFault h f
  another_type : (k : ℕ) (w : Wire) (first e : End) (more : List End) (m l : LeafInterface) → HasWire h k w
      → w.1.ends ≡ first ∷ more
      → IsIn e w.1.ends → Means h k first.words m → Means h k e.words l → has_one_type w.0 ≡ true → same_type m l ≡ false
      → f ≡ at_end code.TypeMismatch e → IsTypeFault h f
  another_count : (k : ℕ) (w : Wire) → HasWire h k w → may_have w.0 w.1.ends ≡ false → f ≡ at_word code.EndCount w.1.id
      → IsTypeFault h f
  no_size : (k : ℕ) (c : Component) (i : Interface) (n : ℕ) → k ≤ top_number h → (body h k).component ≡ Some c
      → IsIn (members.Interface i) c.members → i.size ≡ Some n → is_size n ≡ false → f ≡ at_word code.TypeMismatch i.id
      → IsTypeFault h f
