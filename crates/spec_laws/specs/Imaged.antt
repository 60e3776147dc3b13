-- The images of a compiled system, told of its spec, the labels of its objects, and its map: its objects in their order and of
-- the kinds that their names say, the roots of its spaces, threads, regions, the pages that are mapped, page tables, frames, and
-- labels. Addresses are sums, what is mapped is a set, and what stands before what is an order.
use Rattle.std.specs.Prelude.{◌≡◌, ◌↔◌, ℕ, List, Some, slice_get}
use Rattle.spec_laws.specs.Below.{Domain, DomainLine, IsIn, Labels, MapLine, Spec, Tables}
use Rattle.spec_laws.specs.Framed.{AreFrames}
use Rattle.spec_laws.specs.Kinded.{SayKinds}
use Rattle.spec_laws.specs.Labelled.{AreLabels, AreTableLabels}
use Rattle.spec_laws.specs.Ordered.{AreFramesInOrder, AreTablesInOrder}
use Rattle.spec_laws.specs.Regioned.{AreRegions}
use Rattle.spec_laws.specs.Spaced.{ArePagesOf, AreTablesOf, IsRootOf}
use Rattle.spec_laws.specs.Standing.{StandInOrder}
use Rattle.spec_laws.specs.Threaded.{AreThreads}

-- each domain has a root of its own
pub record AreRoots (t : Tables) (spec : Spec) (root : ℕ → ℕ) : Type 0 where
  pub each : (d : ℕ) (x : Domain) → slice_get t.flat.domains d ≡ Some x → IsRootOf spec d (root d)
  pub apart : (d e : ℕ) (x y : Domain) → slice_get t.flat.domains d ≡ Some x → slice_get t.flat.domains e ≡ Some y
      → root d ≡ root e → d ≡ e

-- page tables: of each level those under which a page is mapped, with their domain's label
pub record AreTables (t : Tables) (spec : Spec) (root : ℕ → ℕ) (labels : Labels) : Type 0 where
  pub each : (d : ℕ) (x : Domain) → slice_get t.flat.domains d ≡ Some x → AreTablesOf t spec d (root d)
  pub labels_are : AreTableLabels t spec root labels

-- the spaces of the domains have these roots
pub record AreImages (t : Tables) (spec : Spec) (root : ℕ → ℕ) (labels : Labels) (lines : List MapLine) : Type 0 where
  pub standing : StandInOrder t spec
  pub kinds : SayKinds spec
  pub domains : (d : ℕ) → IsIn (DomainLine d) lines ↔ ((x : Domain) × (slice_get t.flat.domains d ≡ Some x))
  pub roots : AreRoots t spec root
  pub pages : (d : ℕ) (x : Domain) → slice_get t.flat.domains d ≡ Some x → ArePagesOf t spec d (root d)
  pub threads : AreThreads t spec root lines
  pub regions : AreRegions t spec root lines
  pub tables : AreTables t spec root labels
  pub frames : AreFrames t spec root
  pub labels_are : AreLabels t spec root labels lines
  pub tables_ordered : AreTablesInOrder t spec root
  pub frames_ordered : AreFramesInOrder t spec root
