-- The text of the map. Objects are written as their names in the spec.
--
--   domain LABEL cnode_N ROOT
--   thread PATH control tcb_N            thread PATH INTERFACE CONNECTION tcb_N
--   slot PATH INTERFACE CONNECTION 0xSLOT OBJECT
--   own PATH NAME 0xSLOT OBJECT
--   window PATH INTERFACE CONNECTION 0xADDRESS BYTES
--
-- PATH is that of a leaf, CONNECTION that of a connection. The label of a domain is the domain's path.
use Rattle.std.specs.Prelude.{ℕ, List, [], ◌∷◌, codes, decimal, Option, Some, None, slice_get}
use Rattle.system_spec.specs.Below.{Flat, Source, Spec, end_of, flat_map, leaf_members, name_at, option_map_or}
use Rattle.adl_ast.specs.declared.component.Member.{Member}
use Rattle.adl_ast.specs.declared.component.Member.TheVariants as members
use Rattle.cam_base.specs.Hex.{hex_text}
use Rattle.cam_base.specs.Paths.{joined}
use Rattle.cam_base.specs.Texts.{◌⊹◌, together}
use Rattle.cspace_layout.specs.declared.end_at.EndAt.{EndAt}
use Rattle.system_spec.specs.declared.map_line.MapLine.{MapLine}
use Rattle.system_spec.specs.declared.map_line.MapLine.TheVariants.{DomainLine, ThreadLine, SlotLine, OwnLine, WindowLine}
use Rattle.system_spec.specs.declared.map_text.MapNames.{MapNames}
use Rattle.system_spec.specs.declared.series.Series.TheVariants as series
use Rattle.system_spec.specs.Names.{prefix, root_series}

-- what gives names to what lines say by number
pub record Named : Type 0 where
  pub source : Source
  pub flat : Flat
  pub spec : Spec

abbrev pub named : MapNames → Named
named n = record { source = n.source.now; flat = n.flat.now; spec = n.spec.now }

abbrev pub domain_path : Flat → ℕ → List (List ℕ)
domain_path flat d = option_map_or (λ x. x.path) (slice_get flat.domains d) []

abbrev pub leaf_path : Flat → ℕ → List (List ℕ)
leaf_path flat l = option_map_or (λ x. x.path) (slice_get flat.leaves l) []

abbrev pub connection_path : Flat → ℕ → List (List ℕ)
connection_path flat k = option_map_or (λ x. x.path) (slice_get flat.connections k) []

-- the name of an interface or a lock
abbrev pub name_in : Member → List ℕ
name_in (members.Interface i) = i.id.name
name_in (members.Lock l) = l.id.name
name_in _ = []

-- that of member m of leaf l
abbrev pub member_name : Named → ℕ → ℕ → List ℕ
member_name n l m = option_map_or name_in (slice_get (leaf_members n.source n.flat l) m) []

-- PATH INTERFACE CONNECTION of end e of connection k
abbrev pub end_text : Named → ℕ → ℕ → List ℕ
end_text n k e =
    option_map_or
    (λ x. joined (leaf_path n.flat x.1.leaf) ⊹ together (codes " " ∷ member_name n x.1.leaf x.1.member ∷ codes " " ∷ [])
    ⊹ joined (connection_path n.flat k))
    (end_of n.flat k e) []

abbrev pub domain_line : Named → ℕ → List ℕ
domain_line n d =
    codes "domain " ⊹ joined (domain_path n.flat d)
    ⊹ together (codes " " ∷ prefix series.CNode ∷ decimal d ∷ codes " " ∷ prefix (root_series n.spec.arch) ∷ decimal d
    ∷ codes "\n" ∷ [])

abbrev pub thread_line : Named → ℕ → ℕ → Option EndAt → List ℕ
thread_line n tcb leaf None = codes "thread " ⊹ joined (leaf_path n.flat leaf) ⊹ together (codes " control " ∷ name_at n.spec tcb
    ∷ codes "\n" ∷ [])
thread_line n tcb leaf (Some e) = codes "thread " ⊹ end_text n e.connection e.end ⊹ together (codes " " ∷ name_at n.spec tcb
    ∷ codes "\n" ∷ [])

abbrev pub slot_line : Named → ℕ → ℕ → ℕ → ℕ → List ℕ
slot_line n k e slot object = codes "slot " ⊹ end_text n k e ⊹ together (codes " " ∷ hex_text slot ∷ codes " "
    ∷ name_at n.spec object ∷ codes "\n" ∷ [])

-- of a lock of the leaf at this path
abbrev pub own_line : List (List ℕ) → List ℕ → ℕ → List ℕ → List ℕ
own_line path name slot object = codes "own " ⊹ joined path ⊹ together (codes " " ∷ name ∷ codes " " ∷ hex_text slot ∷ codes " "
    ∷ object ∷ codes "\n" ∷ [])

abbrev pub window_line : Named → ℕ → ℕ → ℕ → ℕ → List ℕ
window_line n k e vaddr bytes = codes "window " ⊹ end_text n k e ⊹ together (codes " " ∷ hex_text vaddr ∷ codes " "
    ∷ decimal bytes ∷ codes "\n" ∷ [])

abbrev pub line_text : Named → MapLine → List ℕ
line_text n (DomainLine d) = domain_line n d
line_text n (ThreadLine tcb leaf end) = thread_line n tcb leaf end
line_text n (SlotLine k e slot object) = slot_line n k e slot object
line_text n (OwnLine leaf m slot object) = own_line (leaf_path n.flat leaf) (member_name n leaf m) slot (name_at n.spec object)
line_text n (WindowLine k e vaddr bytes) = window_line n k e vaddr bytes

abbrev pub map_text : Named → List MapLine → List ℕ
map_text n lines = flat_map (line_text n) lines
