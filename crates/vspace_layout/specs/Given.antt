-- What spaces are laid out from: the source, its flat system, the settings of that, and the images of its programs.
use Rattle.std.specs.Prelude.{ℕ, List, [], slice_get}
use Rattle.vspace_layout.specs.Below.{Arch, EndAt, Flat, Images, Settled, Source, System, arch_of, option_map_or, sections_end, wired}
use Rattle.cspace_layout.specs.LeafEnds as order

pub record Given : Type 0 where
  pub source : Source
  pub flat : Flat
  pub settled : Settled
  pub images : Images

abbrev pub given : Source → Flat → Settled → Images → Given
given source flat settled images = record { source = source; flat = flat; settled = settled; images = images }

abbrev pub wired_of : Given → System
wired_of t = wired t.source t.flat t.settled

abbrev pub given_by : System → Images → Given
given_by s images = given s.source s.flat s.settled images

-- the ends of each leaf, in order
abbrev pub ends : Given → List (List EndAt)
ends t = order.ends_of t.source t.flat

-- the leaves of a domain
abbrev pub leaves_of : Flat → ℕ → List ℕ
leaves_of flat d = option_map_or (λ x. x.leaves) (slice_get flat.domains d) []

abbrev pub arch : Given → Arch
arch t = arch_of t.images.images

-- where regions begin: sections stand below, regions above
abbrev pub base : Given → ℕ
base t = sections_end (arch t)
