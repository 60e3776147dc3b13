-- Where the exports and the ends of bodies lead.
use Rattle.adl_meaning.specs.Prelude.{Hierarchy, IsIn, IsInnerFirst, Name, Part, body, export_named, exports_of, graph, is_composite, option_and_then}
use Rattle.std.specs.Prelude.{List, Option, Some, if◌then◌else◌, length, option_map, slice_index_or, suc, ℕ, ◌≡◌, ◌≤◌}
use Rattle.adl_hierarchy.specs.Finite.{IsFinite}
use Rattle.name_tables.specs.ByName.{found}
use Rattle.adl_program.specs.LeafInterfaces.{port_at}
use Rattle.adl_program.specs.LedEnds.{lead_of, led_wires}
use Rattle.adl_program.specs.declared.body.Port.{Port}
use Rattle.adl_program.specs.declared.leads.Lead.{Lead}
use Rattle.adl_program.specs.declared.leads.Leads.{Leads}

-- where the first export of body k under the name leads
abbrev pub export_lead : Hierarchy → ℕ → Name → Option (Option Lead)
export_lead h k n = option_map (λ x. lead_of h k x.words) (export_named (exports_of (body h k)) n)

-- what the interface j of an instance whose component is k means: itself, or where the first export of it under the name leads
abbrev pub inner_port : Hierarchy → ℕ → Name → Option Port
inner_port h k j =
    if is_composite h k then option_map (λ l. l.port) (option_and_then (λ l. l) (export_lead h k j)) else Some
    (port_at k (body h k) j)

-- the table tells where the exports of body k lead
abbrev pub AreExportsOf : Hierarchy → ℕ → List (Name × Option Lead) → Type 0
AreExportsOf h k t = (n : Name) → found t n ≡ export_lead h k n

-- and the ends of its connections
pub record AreLeadsOf (h : Hierarchy) (k : ℕ) (t : Leads) : Type 0 where
  pub exports : AreExportsOf h k t.exports
  pub wires : t.wires ≡ led_wires h k

-- for each body by number
pub record AreLeads (h : Hierarchy) (all : List Leads) : Type 0 where
  pub length_is : length all ≡ suc (length h.bodies)
  pub each : (k : ℕ) (t : Leads) → k ≤ length h.bodies → AreLeadsOf h k (slice_index_or all k t)

-- for the components of the instances of body k
pub record AreInnerLeads (h : Hierarchy) (k : ℕ) (all : List Leads) : Type 0 where
  pub finite : IsFinite h
  pub number : k ≤ length h.bodies
  pub length_is : length all ≡ suc (length h.bodies)
  pub each : (x : Part) (t : Leads) → IsIn x (body h k).parts → AreLeadsOf h x.kind (slice_index_or all x.kind t)

-- what holds of a program
pub record AreResolved (h : Hierarchy) (all : List Leads) (order : List ℕ) : Type 0 where
  pub leads : AreLeads h all
  pub order_is : IsInnerFirst (graph h) order
