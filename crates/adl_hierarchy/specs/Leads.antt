-- A dotted name leads on in body k where its instance stands there, and where, if the instance is a composite, its
-- composition has an export under the name of the interface. So a search downwards never ends before a leaf.
use Rattle.std.specs.Prelude.{◌≡◌, ◌≤◌, ℕ, true, List, length, Some}
use Rattle.adl_meaning.specs.Prelude.{End, Export, Hierarchy, Id, Name, Part, Wire, body, export_named, exports_of, is_composite, part_named, port_in, wires_of}
use Rattle.cam_base.specs.Gather.{IsIn}

-- an instance of body k by name, with the name of an interface
pub record PortLeads (h : Hierarchy) (k : ℕ) (port : Name × Name) : Type 0 where
  pub part : Part
  pub named : part_named (body h k).parts port.0 ≡ Some part
  pub exported : is_composite h part.kind ≡ true
      → (x : Export) × (export_named (exports_of (body h part.kind)) port.1 ≡ Some x)

pub record Leads (h : Hierarchy) (k : ℕ) (words : List Id) : Type 0 where
  pub port : Name × Name
  pub named : port_in words ≡ Some port
  pub leads : PortLeads h k port

-- ---- all of a hierarchy

-- each export of each body leads on, and each end of each connection
pub record AllLead (h : Hierarchy) : Type 0 where
  pub exports : (k : ℕ) (x : Export) → IsIn x (exports_of (body h k)) → Leads h k x.words
  pub ends : (k : ℕ) (w : Wire) (e : End) → IsIn w (wires_of (body h k)) → IsIn e w.1.ends → Leads h k e.words

-- two words or three, as the grammar has them
abbrev pub IsDotted : List Id → Type 0
IsDotted words = (2 ≤ length words) × (length words ≤ 3)

-- the dotted names of exports and ends are of this kind, as in each tree that spells tokens
pub record AreDotted (h : Hierarchy) : Type 0 where
  pub exports : (k : ℕ) (x : Export) → IsIn x (exports_of (body h k)) → IsDotted x.words
  pub ends : (k : ℕ) (w : Wire) (e : End) → IsIn w (wires_of (body h k)) → IsIn e w.1.ends → IsDotted e.words
