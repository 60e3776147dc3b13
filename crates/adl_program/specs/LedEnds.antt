-- Where ends lead: to an instance, and to what the interface's name means in the leaf behind it.
use Rattle.adl_meaning.specs.Prelude.{End, Hierarchy, Id, Name, Wire, body, option_and_then, port_in, wires_of}
use Rattle.std.specs.Prelude.{List, Option, map, option_map, ℕ}
use Rattle.adl_program.specs.LeafInterfaces.{LeafInterface, leaf_from, port_by}
use Rattle.adl_program.specs.Seen.{part_from}
use Rattle.adl_program.specs.declared.leads.Lead.{Lead}
use Rattle.adl_program.specs.declared.part.PartAt.{PartAt}

-- where c.j leads in body k, whose instance c is this
abbrev pub lead_by : Hierarchy → ℕ → Name × Name → PartAt → Option Lead
lead_by h k port at = option_map (λ p. record { part = at; port = p }) (port_by h k port)

-- where c.j leads in body k
abbrev pub lead_to : Hierarchy → ℕ → Name × Name → Option Lead
lead_to h k port = option_and_then (lead_by h k port) (part_from 0 (body h k).parts port.0)

-- where a dotted name leads in body k
abbrev pub lead_of : Hierarchy → ℕ → List Id → Option Lead
lead_of h k words = option_and_then (lead_to h k) (port_in words)

-- an end, and where it leads
pub record LedEnd : Type 0 where
  pub end : End
  pub lead : Option Lead

-- a connection, and where its ends lead
pub record LedWire : Type 0 where
  pub wire : Wire
  pub ends : List LedEnd

abbrev pub led_end : Hierarchy → ℕ → End → LedEnd
led_end h k e = record { end = e; lead = lead_of h k e.words }

-- the leaf interface that it leads to
abbrev pub led_leaf : Hierarchy → LedEnd → Option LeafInterface
led_leaf h x = option_and_then (λ l. leaf_from h l.port) x.lead

abbrev pub led_wire : Hierarchy → ℕ → Wire → LedWire
led_wire h k w = record { wire = w; ends = map (led_end h k) w.1.ends }

-- the connections of body k
abbrev pub led_wires : Hierarchy → ℕ → List LedWire
led_wires h k = map (led_wire h k) (wires_of (body h k))
