-- Sets of ports, as definitions speak of them.
use Rattle.adl_meaning.specs.Prelude.{Bor, Component, Composition, Export, Fault, Name, Port, Source, bytes_eq, held_as, known_in, list_any, misfits_after}
use Rattle.adl_names.specs.Words.{is_among}
use Rattle.adl_names.specs.Bodies.{owner_of}
use Rattle.std.specs.Prelude.{Bool, List, Option, ℕ, ◌&&◌, ◌==◌}
use Rattle.adl_names.specs.declared.exports.Port.{Port as Borrowed}
use Rattle.adl_names.specs.declared.exports.Taken.{Taken}

abbrev pub as_port : Borrowed → Port
as_port p = (p.instance.now, p.interface.now)

-- whether a port is among those taken, of which the set has the first byte of each one's instance, and each one's name
abbrev pub is_port_among : List (ℕ × Bor Name) → Port → Bool
is_port_among keys p = list_any (λ k. p.0.id.place.first == k.0 && bytes_eq p.1 k.1.now) keys

-- the exports of a composition at fault, behind those that have taken targets and inner interfaces
abbrev pub misfits_from : Source → Option (Bor Component) → Composition → Taken → List Export → List Fault
misfits_from s owner k taken exports = misfits_after (known_in s) (owner_of owner) (held_as k) (is_among taken.targets)
    (is_port_among taken.inners.keys) exports
