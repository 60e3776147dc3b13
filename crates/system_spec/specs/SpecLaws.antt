-- What follows from the definitions, as statements.
use Rattle.std.specs.Prelude.{◌≡◌, ℕ, Some, slice_get}
use Rattle.system_spec.specs.Below.{Domain, FlatConnection, IsIn, OfConnection, OfDomain, Rpc, name_at, object_at}
use Rattle.system_spec.specs.declared.part.Part.{Part}
use Rattle.system_spec.specs.declared.part.What.TheVariants.{CNodeOf, EndpointOf}
use Rattle.system_spec.specs.declared.series.Series.TheVariants as series
use Rattle.system_spec.specs.Made.{part_name, spec_of}
use Rattle.system_spec.specs.Objects.{object}
use Rattle.system_spec.specs.Parts.{notification_by, part, parts, place}
use Rattle.system_spec.specs.Tables.{Tables}

-- at the place of each part stands its object, under its name
pub record ObjectsStand (t : Tables) : Type 0 where
  pub object : (p : Part) → IsIn p (parts t) → object_at (spec_of t) (place t p.what) ≡ Some (object t p.what)
  pub name : (p : Part) → IsIn p (parts t) → name_at (spec_of t) (place t p.what) ≡ part_name p

-- there is a CNode for each domain, an endpoint for each RPC, and a notification for each connection that has one
pub record PartsAreThere (t : Tables) : Type 0 where
  pub cnode : (d : ℕ) (x : Domain) → slice_get t.flat.domains d ≡ Some x
      → IsIn (part series.CNode d (OfDomain d) (CNodeOf d)) (parts t)
  pub endpoint : (k : ℕ) (c : FlatConnection) → slice_get t.flat.connections k ≡ Some c → c.connector ≡ Rpc
      → IsIn (part series.Ep k (OfConnection k) (EndpointOf k)) (parts t)
  pub notification : (k : ℕ) (c : FlatConnection) → slice_get t.flat.connections k ≡ Some c → (p : Part)
      → IsIn p (notification_by k c.connector) → IsIn p (parts t)
