-- What tables keep whose spec has just the boot edges that are assigned. Slots and spaces are those of the flat system. In each
-- space pages rise; each end that sees memory sees some; and connections to the same registers see as many pages. Tables of a
-- source without faults keep it.
use Rattle.std.specs.Prelude.{◌≡◌, ◌<◌, ℕ, true, Some, slice_get}
use Rattle.spec_laws.specs.Below.{FlatConnection, FlatEnd, Tables, is_window, memory_pages, registers, same_port, slots_of, spaces_of}
use Rattle.arch_policy.specs.Ends.{EndAt}
use Rattle.reach_laws.specs.Flat.{IsFlat}
use Rattle.vspace_layout.specs.SpaceLaws.{PagesRise}
use Rattle.spec_laws.specs.Policy.{given_tables}

-- connections to one dataport of a device see as many pages
abbrev pub SeeTheSame : Tables → Type 0
SeeTheSame t =
    (j k : ℕ) (c d : FlatConnection) (e f : FlatEnd)
    → slice_get t.flat.connections j ≡ Some c → slice_get t.flat.connections k ≡ Some d
    → registers c ≡ Some e → registers d ≡ Some f → same_port e f ≡ true
    → memory_pages t.settled j c ≡ memory_pages t.settled k d

pub record IsConnected (t : Tables) : Type 0 where
  pub flat : IsFlat t.source t.flat
  pub slots : t.slots ≡ slots_of t.source t.flat
  pub spaces : t.spaces ≡ spaces_of (given_tables t)
  pub rise : (d : ℕ) → PagesRise (given_tables t) d
  pub seen : (x : EndAt t.flat) → is_window x.connection.connector x.end.role ≡ true
      → 0 < memory_pages t.settled x.place x.connection
  pub registers : SeeTheSame t
