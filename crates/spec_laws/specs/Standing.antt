-- Which objects stand in a system, and in which order. Kind stands behind kind, but for the levels of page tables, which stand
-- among each other; and those of one kind stand by their numbers. A CNode has the number of its domain, an endpoint that of a
-- connection of calls, a notification that of a connection of notifications or of an interrupt; locks and interrupts have their
-- numbers among all. Which threads, page tables and frames there are is said where these are.
use Rattle.std.specs.Prelude.{◌≡◌, ◌⊎◌, ◌<◌, ◌≤◌, ℕ, length, Some, slice_get}
use Rattle.spec_laws.specs.Below.{FlatConnection, Interrupt, Rpc, Series, Spec, Tables, before}
use Rattle.adl_meaning.specs.declared.connector.Connector.TheVariants.{Notification as Notifies}
use Rattle.system_spec.specs.declared.series.Series.TheVariants as series
use Rattle.spec_laws.specs.Slotted.{IsLockNumber, IsNamed, interrupt}

-- the order of kinds
abbrev pub rank : Series → ℕ
rank series.CNode = 0
rank series.Tcb = 1
rank series.Ep = 2
rank series.Ntfn = 3
rank series.Lock = 4
rank series.Irq = 5
rank series.Frame = 7
rank _ = 6

-- which numbers a kind has
abbrev pub HasNumber : Tables → Series → ℕ → Type 0
HasNumber t series.CNode n = n < length t.flat.domains
HasNumber t series.Ep n = (c : FlatConnection) × (slice_get t.flat.connections n ≡ Some c) × (c.connector ≡ Rpc)
HasNumber t series.Ntfn n =
    (c : FlatConnection) × (slice_get t.flat.connections n ≡ Some c) × ((c.connector ≡ Notifies) ⊎ (c.connector ≡ Interrupt))
HasNumber t series.Lock n = (leaf m : ℕ) × IsLockNumber t leaf m n
HasNumber t series.Irq n =
    (k : ℕ) × (c : FlatConnection) × (slice_get t.flat.connections k ≡ Some c) × (c.connector ≡ Interrupt)
    × (n ≡ before interrupt t.flat.connections k)
HasNumber t _ n = Unit {0}

-- each object has a kind, and a number of its kind
pub record StandInOrder (t : Tables) (spec : Spec) : Type 0 where
  pub kind : ℕ → Series
  pub number : ℕ → ℕ
  pub named : (place : ℕ) → place < length spec.entries → IsNamed spec place (kind place) (number place)
  pub only : (place : ℕ) → place < length spec.entries → HasNumber t (kind place) (number place)
  pub kinds_rise : (p q : ℕ) → p < q → q < length spec.entries → rank (kind p) ≤ rank (kind q)
  pub numbers_rise : (p q : ℕ) → p < q → q < length spec.entries → kind p ≡ kind q → number p < number q
