-- Export, as a condition on a source. A dotted name in a composition names an interface of an instance, alone or in a group:
-- its port. The fault stands at the dotted name of
--
--   an export of the assembly (in_an_assembly);
--   an export whose port and whose target are interfaces that differ in kind, type word or size (unlike_target);
--   an export whose target an export in front of it has (target_again);
--   an export whose port an export in front of it has (port_again), where both are interfaces that are known;
--   an export or an end whose port is an interface of a composite that no export of its composition has as target (unled).
use Rattle.std.specs.Prelude.{◌≡◌, List, ◌∷◌, ◌++◌, false, Option, None, Some}
use Rattle.adl_ast.specs.declared.component.Interface.{Interface}
use Rattle.adl_meaning.specs.Export.{same_interface}
use Rattle.adl_meaning.specs.Prelude.{Composition, Connection, End, Export, Fault, IsIn, Known, Port, Source, connections_in, export_fault, exports_in, held_as, interface_at, known_in, port_of}
use Rattle.front_laws.specs.Standing.{HasComposition}
use Rattle.front_laws.specs.UnknownWords.{Holding, Types}

-- two ports are one: their instances are written at one place, and the interface has one name
pub record IsSamePort (p q : Port) : Type 0 where
  pub instance : p.0.id.place.first ≡ q.0.id.place.first
  pub interface : p.1 ≡ q.1

-- the port is an interface of a composite, and no export leads on from it
pub record IsUnled (types : Types) (p : Port) : Type 0 where
  pub component : Known
  pub known : types p.0.component.name ≡ Some component
  pub interface : Interface
  pub declared : component.interface p.1 ≡ Some interface
  pub inner : Holding
  pub composite : component.holds ≡ Some inner
  pub no_export : component.exports p.1 ≡ false

-- The export x, behind these exports of the same composition, is at fault. Its owner is the component that has the
-- composition; the assembly is none.
pub data IsMisfit (types : Types) (owner : Option Known) (held : Holding) (before : List Export) (x : Export) : Type 0 where
  in_an_assembly : owner ≡ None → IsMisfit types owner held before x
  unlike_target : (c : Known) (p : Port) (inner outer : Interface) → owner ≡ Some c → port_of held x.words ≡ Some p
      → interface_at types p ≡ Some inner → c.interface x.target.name ≡ Some outer → same_interface inner outer ≡ false
      → IsMisfit types owner held before x
  target_again : (y : Export) → IsIn y before → y.target.name ≡ x.target.name → IsMisfit types owner held before x
  port_again : (y : Export) (p q : Port) (i j : Interface) → IsIn y before → port_of held y.words ≡ Some p
      → interface_at types p ≡ Some i
      → port_of held x.words ≡ Some q → interface_at types q ≡ Some j → IsSamePort p q → IsMisfit types owner held before x
  unled : (p : Port) → port_of held x.words ≡ Some p → IsUnled types p → IsMisfit types owner held before x

pub data IsMisfitIn (s : Source) (f : Fault) : Type 0 where
  an_export : (owner : Option Known) (k : Composition) (before after : List Export) (x : Export) → HasComposition s owner k
      → exports_in k ≡ before ++ x ∷ after → IsMisfit (known_in s) owner (held_as k) before x → f ≡ export_fault x.words x.place
      → IsMisfitIn s f
  an_end : (owner : Option Known) (k : Composition) (w : Connection) (e : End) (p : Port) → HasComposition s owner k
      → IsIn w (connections_in k) → IsIn e w.ends → port_of (held_as k) e.words ≡ Some p → IsUnled (known_in s) p
      → f ≡ export_fault e.words e.place → IsMisfitIn s f
