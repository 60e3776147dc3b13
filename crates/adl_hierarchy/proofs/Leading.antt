-- Where no fault of names stands, the dotted names of exports and ends lead on, and each end joins an interface of a leaf.
use Rattle.adl_hierarchy.proofs.Common.{AllLead, AreDotted, AreNamesSound, Body, Bool, Component, Composition, Connection, Connector, End, Export, Hierarchy, Id, Instance, IsFinite, IsIn, Known, Leads, Line, List, Name, None, Option, Part, PortLeads}
use Rattle.adl_hierarchy.proofs.Common.{Reached, Some, Source, Wire, [], ap, behind, body, body_of, bytes_eq, composition_of, cond, connections_in, connector_of, ends_in, export_named, exports_in, exports_of, false, filter_map, find, found}
use Rattle.adl_hierarchy.proofs.Common.{from_filter_map, from_flat_map, held_as, hierarchy_of, in_filter_map, in_flat_map, instances_by, instances_in, is_composite, is_some, is_unled, joined_by, kind_named, known_in, known_of, length, list_any}
use Rattle.adl_hierarchy.proofs.Common.{map_some, name_of, not, option_and_then, option_map, option_map_or, part_named, part_of, parts_by, parts_in, port_in, port_of, reached, reached_by, reached_within, refl, subst, suc, sym, true}
use Rattle.adl_hierarchy.proofs.Common.{unknown_in_composition, unknown_interface, unless_known, wire_of, wires_of, zero, ℕ, ◌&&◌, ◌||◌, ◌∙◌, ◌∷◌, ◌≡◌, ◌≤◌}
use Rattle.adl_ast.specs.declared.composition.Line.TheVariants as lines
use Rattle.adl_meaning.specs.Known.{is_target, is_exported}
use Rattle.adl_hierarchy.proofs.Bodies.{body_number, parts_of}
use Rattle.adl_hierarchy.proofs.Exports.{no_misfit, export_leads, end_leads}
use Rattle.adl_hierarchy.proofs.KnownNames.{IsTyped, typed, no_unknown, instance_typed, export_known, end_known, IsKnown, dotted_known}
use Rattle.adl_hierarchy.proofs.Finite.{sound_is_finite}
use Rattle.adl_hierarchy.proofs.PartNames.{names_once}
use Rattle.adl_hierarchy.proofs.Repeats.{find_once}
use Rattle.adl_hierarchy.proofs.Steps.{IsShallow, kind_in, shallow, below, no_parts, part_in}

-- ---- an instance of a composition is a part

part_of_line : (numbers : Name → Option ℕ) (l : Line) (i : Instance) (t : ℕ) → IsIn i (instances_by l)
    → numbers i.component.name ≡ Some t → (x : Part) × IsIn x (parts_by numbers l) × (x.instance ≡ i) × (x.kind ≡ t)
part_of_line numbers (lines.Instance j) i t m e = in_group numbers None (j ∷ []) i t m e
  where
    in_group : (numbers : Name → Option ℕ) (g : Option Name) (is : List Instance) (i : Instance) (t : ℕ) → IsIn i is
        → numbers i.component.name ≡ Some t → (x : Part) × IsIn x (filter_map (part_of numbers g) is) × (x.instance ≡ i)
        × (x.kind ≡ t)
    in_group numbers g is i t m e =
        let x : Part = record { instance = i; group = g; kind = t } in (
          x,
          in_filter_map (part_of numbers g) i x is m
              (ap (λ o. option_map (λ k. let p : Part = record { instance = i; group = g; kind = k } in p) o) e),
          refl,
          refl,
        )
part_of_line numbers (lines.Group g) i t m e =
    let x : Part = record { instance = i; group = Some g.id.name; kind = t } in (
      x,
      in_filter_map (part_of numbers (Some g.id.name)) i x g.instances m
          (ap (λ o. option_map (λ k. let p : Part = record { instance = i; group = Some g.id.name; kind = k } in p) o) e),
      refl,
      refl,
    )
part_of_line numbers (lines.Connection k) i t m e = absurd m
part_of_line numbers (lines.Export x) i t m e = absurd m

part_of_instance : (numbers : Name → Option ℕ) (k : Composition) (i : Instance) (t : ℕ) → IsIn i (instances_in k)
    → numbers i.component.name ≡ Some t → (x : Part) × IsIn x (parts_in numbers (Some k)) × (x.instance ≡ i) × (x.kind ≡ t)
part_of_instance numbers k i t m e =
    let l = from_flat_map instances_by i k.lines m in
    let x = part_of_line numbers l.0 i t l.2 e in
    (x.0, in_flat_map (parts_by numbers) l.0 x.0 k.lines l.1 x.1, x.2, x.3)

-- ---- a known interface that leads on

any_found : {X : Type 0} (p : X → Bool) (xs : List X) → list_any p xs ≡ true → (x : X) × (find p xs ≡ Some x)
any_found p [] e = cc
any_found {X} p (x ∷ xs) e = by_test (p x) (any_found p xs) e
  where
    by_test : (b : Bool) → (list_any p xs ≡ true → (y : X) × (find p xs ≡ Some y)) → b || list_any p xs ≡ true
        → (y : X) × (cond b (Some x) (find p xs) ≡ Some y)
    by_test true ih e = (x, refl)
    by_test false ih e = ih e

not_missed : (declared exported : Bool) → declared ≡ true → declared && (true && not exported) ≡ false → exported ≡ true
not_missed true true d n = refl
not_missed true false d n = cc
not_missed false exported d n = cc

pub is_there : {X : Type 0} (o : Option X) → is_some o ≡ true → (x : X) × (o ≡ Some x)
is_there None e = cc
is_there (Some x) e = (x, refl)

-- a declared interface of a composite has an export, where it isn't one that leads nowhere
exported : (c : Component) (j : Id) (k : Composition) → composition_of c ≡ Some k → is_some ((known_of c).interface j.name) ≡ true
    → ends_in (known_of c) j.name ≡ false → (x : Export) × (export_named (exports_in k) j.name ≡ Some x)
exported c j k e d n = any_found (λ (x : Export). bytes_eq j.name x.target.name) (exports_in k)
    (is_so (composition_of c) e (is_some ((known_of c).interface j.name)) d n)
  where
    is_so : (o : Option Composition) → o ≡ Some k → (b : Bool) → b ≡ true
        → b && (is_some (option_map held_as o) && not (is_exported o j.name)) ≡ false → is_target (exports_in k) j.name ≡ true
    is_so None t b d n = cc
    is_so (Some z) t b d n = let p : z ≡ k = cc in ap (λ (y : Composition). is_target (exports_in y) j.name) (sym p)
        ∙ not_missed b (is_target (exports_in z) j.name) d n

-- ---- dotted names of a composition

pub interface_known : (b : Bool) (j : Id) → unless_known b j ≡ [] → b ≡ true
interface_known true j e = refl
interface_known false j e = cc

-- a declared interface of an instance leads on
port_leads : (s : Source) → AreNamesSound s → (k : ℕ) (x : Part) (j : Id) (known : Known) → IsIn x (body (hierarchy_of s) k).parts
    → IsTyped s x.instance.component.name known → is_some (known.interface j.name) ≡ true → ends_in known j.name ≡ false
    → kind_named s x.instance.component.name ≡ Some x.kind → PortLeads (hierarchy_of s) k (name_of x, j.name)
port_leads s sound k x j known i type d n kind =
    let h = hierarchy_of s in
    let c = type.component in
    let same : x.kind ≡ type.number = let a = type.numbered in cc in
    let B : ℕ → Type 0 = λ z. body h z ≡ body_of (kind_named s) c in
    let at = subst B (sym same) (body_number s type.number c type.stands) in
    let R : Known → Type 0 = λ z. is_some (z.interface j.name) ≡ true in
    let Q : Known → Type 0 = λ z. ends_in z j.name ≡ false in
    record {
      part = x;
      named = find_once name_of (body h k).parts x (names_once s sound k) i;
      exported = λ e.
          let C : Body → Type 0 = λ b. is_some b.composition ≡ true in
          let inner = is_there (composition_of c.1) (subst C at e) in
          let y = exported c.1 j inner.0 inner.1 (subst R (sym type.is_known) d) (subst Q (sym type.is_known) n) in
          let P : Body → Type 0 = λ b. export_named (exports_of b) j.name ≡ Some y.0 in
          (y.0, subst P (sym at) (ap (λ o. export_named (option_map_or exports_in o []) j.name) inner.1 ∙ y.1));
    }

lead : (s : Source) → AreNamesSound s → (k : ℕ) (composition : Composition) (owner : Option Known) (words : List Id)
    → (body (hierarchy_of s) k).composition ≡ Some composition → unknown_in_composition (known_in s) owner composition ≡ []
    → IsKnown (known_in s) composition words → is_unled (known_in s) (port_of (held_as composition) words) ≡ false
    → Leads (hierarchy_of s) k words
lead s sound k composition owner words e none w u =
    let h = hierarchy_of s in
    let i = w.instance in
    let j = w.interface in
    let known = instance_typed (known_in s) owner composition i none w.stands in
    let type = typed s i.component.name known.0 known.1 in
    let x = part_of_instance (kind_named s) composition i type.number w.stands type.numbered in
    let P : List Part → Type 0 = λ xs. IsIn x.0 xs in
    let stands : IsIn x.0 (body h k).parts = subst P (sym (parts_of s k ∙ ap (parts_in (kind_named s)) e)) x.1 in
    let T : Instance → Type 0 = λ y. IsTyped s y.component.name known.0 in
    let declared : is_some (known.0.interface j.name) ≡ true = interface_known (is_some (known.0.interface j.name)) j
    (ap (λ o. unknown_interface o j) (sym known.1) ∙ w.declared) in
    let leads_on : ends_in known.0 j.name ≡ false =
    ap (λ o. option_map_or (λ c. ends_in c j.name) o false) (sym known.1) ∙ ap (is_unled (known_in s)) (sym w.port) ∙ u in
    let kind : kind_named s x.0.instance.component.name ≡ Some x.0.kind = ap (λ (y : Instance). kind_named s y.component.name) x.2
    ∙ type.numbered ∙ ap Some (sym x.3) in
    let F : Name → Option (Name × Name) = λ n. Some (n, j.name) in
    record {
      port = (name_of x.0, j.name);
      named = w.last ∙ ap F (ap (λ (y : Instance). y.id.name) (sym x.2));
      leads = port_leads s sound k x.0 j known.0 stands (subst T (sym x.2) type) declared leads_on kind;
    }

-- ---- all of a source

pub own_export : (o : Option Composition) (x : Export) → IsIn x (option_map_or exports_in o []) → (k : Composition) × (o ≡ Some k)
    × IsIn x (exports_in k)
own_export None x i = absurd i
own_export (Some k) x i = (k, refl, i)

pub own_connection : (o : Option Composition) (w : Wire) → IsIn w (filter_map wire_of (option_map_or connections_in o []))
    → (k : Composition) × (o ≡ Some k) × IsIn w.1 (connections_in k)
own_connection None w i = absurd i
own_connection (Some k) w i =
    let y = from_filter_map wire_of w (connections_in k) i in
    let c = map_some (λ (c : Connector). (c, y.0)) (connector_of y.0.connector.name) w y.2 in
    let P : Connection → Type 0 = λ z. IsIn z (connections_in k) in
    (k, refl, subst P (ap (λ (v : Wire). v.1) c.2) y.1)

pub all_lead : (s : Source) → AreNamesSound s → AreDotted (hierarchy_of s) → AllLead (hierarchy_of s)
all_lead s sound dotted = record {
  exports = λ k x i.
      let o = own_export (body (hierarchy_of s) k).composition x i in
      let known = no_unknown s sound k o.0 o.1 in
      let fit = no_misfit s sound k o.0 o.1 in
      lead s sound k o.0 known.0 x.words o.1 known.1
      (dotted_known (known_in s) o.0 x.words (dotted.exports k x i) (export_known (known_in s) known.0 o.0 x known.1 o.2))
      (export_leads (known_in s) fit.0 o.0 x fit.1 o.2);
  ends = λ k w e i m.
      let o = own_connection (body (hierarchy_of s) k).composition w i in
      let known = no_unknown s sound k o.0 o.1 in
      let fit = no_misfit s sound k o.0 o.1 in
      lead s sound k o.0 known.0 e.words o.1 known.1
      (dotted_known (known_in s) o.0 e.words (dotted.ends k w e i m) (end_known (known_in s) known.0 o.0 w.1 e known.1 o.2 m))
      (end_leads (known_in s) fit.0 o.0 w.1 e fit.1 o.2 m);
}

-- ---- what leads on reaches a leaf

inner_reaches : (h : Hierarchy) (f : ℕ → Name × Name → Option Reached) (j : Name) (x : Part)
    → ((y : Export) → IsIn y (exports_of (body h x.kind)) → Leads h x.kind y.words)
    → (is_composite h x.kind ≡ true → (y : Export) × (export_named (exports_of (body h x.kind)) j ≡ Some y))
    → ((port : Name × Name) → PortLeads h x.kind port → (r : Reached) × (f x.kind port ≡ Some r))
    → (r : Reached) × (reached_by h f j x ≡ Some r)
inner_reaches h f j x a p ih = by_kind (is_composite h x.kind) refl
  where
    inner : Option (Name × Name)
    inner = option_and_then (λ (y : Export). port_in y.words) (export_named (exports_of (body h x.kind)) j)

    by_kind : (b : Bool) → is_composite h x.kind ≡ b
        → (r : Reached)
        × (cond b
        (option_map (behind (name_of x))
        (option_and_then (f x.kind) (option_and_then (λ (y : Export). port_in y.words)
        (export_named (exports_of (body h x.kind)) j))))
        (Some (record { path = name_of x ∷ []; part = x; interface = j })) ≡ Some r)
    by_kind true t =
        let y = p t in
        let into = a y.0 (found (λ (y : Export). bytes_eq j y.target.name) (exports_of (body h x.kind)) y.0 y.1).0 in
        let r = ih into.port into.leads in (
          behind (name_of x) r.0,
          ap
              (λ o. option_map (behind (name_of x))
              (option_and_then (f x.kind) (option_and_then (λ (y : Export). port_in y.words) o))) y.1
              ∙ ap (λ o. option_map (behind (name_of x)) (option_and_then (f x.kind) o)) into.named
              ∙ ap (λ o. option_map (behind (name_of x)) o) r.1,
        )
    by_kind false t = (record { path = name_of x ∷ []; part = x; interface = j }, refl)

port_reaches : (h : Hierarchy) → IsFinite h → AllLead h → (n k : ℕ) (port : Name × Name) → k ≤ length h.bodies → IsShallow h k n
    → PortLeads h k port → (r : Reached) × (reached_within h n k port ≡ Some r)
port_reaches h f a zero k port l s p = let t : part_named [] port.0 ≡ Some p.part =
    ap (λ xs. part_named xs port.0) (sym (no_parts h k l s)) ∙ p.named in cc
port_reaches h f a (suc n) k port l s p =
    let x = p.part in
    let i = part_in h k port.0 x p.named in
    let r = inner_reaches h (reached_within h n) port.1 x (a.exports x.kind) p.exported
    (λ q. port_reaches h f a n x.kind q (kind_in h f k x l i) (below h k n x l i s)) in
    (r.0, ap (λ o. option_and_then (reached_by h (reached_within h n) port.1) o) p.named ∙ r.1)

-- a dotted name that leads on reaches an interface of a leaf
pub words_reach : (h : Hierarchy) → IsFinite h → AllLead h → (k : ℕ) (words : List Id) → k ≤ length h.bodies → Leads h k words
    → (r : Reached) × (option_and_then (reached h k) (port_in words) ≡ Some r)
words_reach h f a k words l p =
    let r = port_reaches h f a (length h.bodies) k p.port l (shallow h f k l) p.leads in
    (r.0, ap (λ o. option_and_then (reached h k) o) p.named ∙ r.1)

-- each end joins an interface of a leaf
pub ends_reach : (s : Source) → AreNamesSound s → AreDotted (hierarchy_of s) → (k : ℕ) (w : Wire) (e : End)
    → k ≤ length (hierarchy_of s).bodies → IsIn w (wires_of (body (hierarchy_of s) k)) → IsIn e w.1.ends
    → (r : Reached) × (joined_by (hierarchy_of s) k e ≡ Some r)
ends_reach s sound dotted k w e l i m =
    let a = all_lead s sound dotted in
    words_reach (hierarchy_of s) (sound_is_finite s sound) a k e.words l (a.ends k w e i m)
