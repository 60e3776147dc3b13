-- Where no name is unknown: types have components with numbers, and dotted names have instances.
use Rattle.adl_hierarchy.proofs.Common.{AreNamesSound, Component, Composition, Connection, Connector, End, Export, Held, Id, Instance, IsDotted, IsIn, ItemAt, Known, Line, List, Member, Name, None, Option, Some, Source, [], a_group}
use Rattle.adl_hierarchy.proofs.Common.{ap, arith, as_composition, as_export, body, component_named, components, compositions, connections_in, connector_of, exports_in, from_filter_map, from_flat_map, held_as}
use Rattle.adl_hierarchy.proofs.Common.{hierarchy_of, inl, inr, instances_by, instances_in, is_some, kind_named, known_in, known_of, length, map_some, none_in, none_left, none_right, option_map, port_in, port_of, refl}
use Rattle.adl_hierarchy.proofs.Common.{rules, slice_get, subst, suc, sym, unknown_in_composition, unknown_interface, unless_known, ℕ, ◌∙◌, ◌∷◌, ◌≡◌, ◌≤◌}
use Rattle.adl_ast.specs.declared.component.Member.TheVariants as members
use Rattle.adl_ast.specs.declared.composition.Line.TheVariants as lines
use Rattle.adl_meaning.specs.Unknown.{unknown_type, unknown_in_group, unknown_in_three, unknown_in_dotted, unknown_in_line, unknown_in_member, unknown_in_item, is_procedure}
use Rattle.adl_hierarchy.proofs.ComponentNumbers.{number_found}
use Rattle.adl_hierarchy.proofs.Lists.{in_get}
use Rattle.adl_hierarchy.proofs.HeldInstances.{instance_in, member_in}
use Rattle.adl_hierarchy.proofs.Sources.{composed, none_in_component, none_in_assembly}

-- ---- types

-- the component that a name stands for, by its number
pub record IsTyped (s : Source) (n : Name) (known : Known) : Type 0 where
  pub number : ℕ
  pub component : ItemAt × Component
  pub numbered : kind_named s n ≡ Some number
  pub stands : slice_get (components s) number ≡ Some component
  pub is_known : known_of component.1 ≡ known

pub typed : (s : Source) (n : Name) (known : Known) → known_in s n ≡ Some known → IsTyped s n known
typed s n known e =
    let a = map_some known_of (option_map (λ (c : ItemAt × Component). c.1) (component_named s n)) known e in
    let b = map_some (λ (c : ItemAt × Component). c.1) (component_named s n) a.0 a.1 in
    let k = number_found (components s) 0 n b.0 b.1 in
    search (rules)

-- ---- compositions

-- no name of this composition is unknown
pub no_unknown : (s : Source) → AreNamesSound s → (k : ℕ) (composition : Composition)
    → (body (hierarchy_of s) k).composition ≡ Some composition
    → (owner : Option Known) × (unknown_in_composition (known_in s) owner composition ≡ [])
no_unknown s sound k composition e = elim (composed s k composition e) [
  | inl c ↦
      let own = none_in_component s (unknown_in_item (known_in s) (is_procedure s)) c.0 sound.all_known c.1 in
      let m = from_filter_map as_composition composition c.0.1.members (in_get (compositions c.0.1) 0 composition c.2) in (
        Some (known_of c.0.1),
        of_member (known_of c.0.1) m.0 m.2
            (none_in (unknown_in_member (known_in s) (is_procedure s) (known_of c.0.1)) c.0.1.members m.0 own m.1),
      )
  | inr a ↦
      let own = none_in_assembly s (unknown_in_item (known_in s) (is_procedure s)) a.0 sound.all_known a.1 in
      let P : Composition → Type 0 = λ z. unknown_in_composition (known_in s) None z ≡ [] in
      (None, subst P a.2 (none_left (unknown_in_composition (known_in s) None a.0.1.composition) _ own))
]
  where
    of_member : (owner : Known) (m : Member) → as_composition m ≡ Some composition
        → unknown_in_member (known_in s) (is_procedure s) owner m ≡ []
        → unknown_in_composition (known_in s) (Some owner) composition ≡ []
    of_member owner (members.Composition z) t n = let p : z ≡ composition = cc in
        ap (unknown_in_composition (known_in s) (Some owner)) (sym p) ∙ n
    of_member owner _ t n = cc

known_type : (types : Name → Option Known) (owner : Option Known) (held : Name → Option Held) (l : Line) (i : Instance)
    → IsIn i (instances_by l) → unknown_in_line types owner held l ≡ [] → unknown_type types i ≡ []
known_type types owner held (lines.Instance j) i (inl s) e = ap (unknown_type types) (sym s) ∙ e
known_type types owner held (lines.Instance j) i (inr m) e = absurd m
known_type types owner held (lines.Group g) i m e = none_in (unknown_type types) g.instances i e m
known_type types owner held (lines.Connection k) i m e = absurd m
known_type types owner held (lines.Export x) i m e = absurd m

is_typed : (types : Name → Option Known) (i : Instance) → unknown_type types i ≡ []
    → (known : Known) × (types i.component.name ≡ Some known)
is_typed types i e = by_case (types i.component.name) refl e
  where
    by_case : (o : Option Known) → types i.component.name ≡ o → unless_known (is_some o) i.component ≡ []
        → (known : Known) × (types i.component.name ≡ Some known)
    by_case None t u = cc
    by_case (Some known) t u = (known, t)

-- each instance has a type
pub instance_typed : (types : Name → Option Known) (owner : Option Known) (k : Composition) (i : Instance)
    → unknown_in_composition types owner k ≡ [] → IsIn i (instances_in k)
    → (known : Known) × (types i.component.name ≡ Some known)
instance_typed types owner k i e m = search (rules, from_flat_map, is_typed, known_type, none_in)

-- the dotted names of exports and ends are known
pub export_known : (types : Name → Option Known) (owner : Option Known) (k : Composition) (x : Export)
    → unknown_in_composition types owner k ≡ [] → IsIn x (exports_in k) → unknown_in_dotted types (held_as k) x.words ≡ []
export_known types owner k x e m =
    let l = from_filter_map as_export x k.lines m in
    by_line l.0 l.2 (none_in (unknown_in_line types owner (held_as k)) k.lines l.0 e l.1)
  where
    by_line : (l : Line) → as_export l ≡ Some x → unknown_in_line types owner (held_as k) l ≡ []
        → unknown_in_dotted types (held_as k) x.words ≡ []
    by_line (lines.Export y) t n = search (rules, none_left)
    by_line _ t n = cc

pub end_known : (types : Name → Option Known) (owner : Option Known) (k : Composition) (x : Connection) (e : End)
    → unknown_in_composition types owner k ≡ [] → IsIn x (connections_in k) → IsIn e x.ends
    → unknown_in_dotted types (held_as k) e.words ≡ []
end_known types owner k x e none m i = search (rules, from_filter_map, none_in, none_right)

-- so is each connector
pub connector_known : (types : Name → Option Known) (owner : Option Known) (k : Composition) (x : Connection)
    → unknown_in_composition types owner k ≡ [] → IsIn x (connections_in k)
    → (c : Connector) × (connector_of x.connector.name ≡ Some c)
connector_known types owner k x none m = search (rules, from_filter_map, none_in, is_some, none_left)

-- ---- dotted names

-- a dotted name that is known has an instance of the composition, with an interface of its component
pub record IsKnown (types : Name → Option Known) (k : Composition) (words : List Id) : Type 0 where
  pub instance : Instance
  pub interface : Id
  pub stands : IsIn instance (instances_in k)
  pub port : port_of (held_as k) words ≡ Some (instance, interface.name)
  pub last : port_in words ≡ Some (instance.id.name, interface.name)
  pub declared : unknown_interface (types instance.component.name) interface ≡ []

pub dotted_known : (types : Name → Option Known) (k : Composition) (words : List Id) → IsDotted words
    → unknown_in_dotted types (held_as k) words ≡ [] → IsKnown types k words
dotted_known types k [] d e = let l = d.0 in absurd (omega (arith, l))
dotted_known types k (a ∷ []) d e = let l : 2 ≤ 1 = d.0 in absurd (omega (arith, l))
dotted_known types k (a ∷ j ∷ []) d e = search (rules, instance_in)
dotted_known types k (g ∷ a ∷ j ∷ []) d e = by_case (held_as k g.name) refl e
  where
    by_case : (o : Option Held) → held_as k g.name ≡ o → unknown_in_three types o g a j ≡ [] → IsKnown types k (g ∷ a ∷ j ∷ [])
    by_case (Some (a_group f)) t n = of_member (f a.name) refl n
      where
        of_member : (o : Option Instance) → f a.name ≡ o → unknown_in_group types o a j ≡ [] → IsKnown types k (g ∷ a ∷ j ∷ [])
        of_member None u n = cc
        of_member (Some i) u n =
            let m = member_in k g.name a.name f i t u in
            search (rules)
    by_case _ t n = cc
dotted_known types k (a ∷ b ∷ c ∷ x ∷ more) d e = let l : suc (suc (suc (suc (length more)))) ≤ 3 = d.1 in
    absurd (omega (arith, l))
