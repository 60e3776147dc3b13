-- The interface that an end joins is one that the component of its leaf declares.
use Rattle.flat_laws.proofs.Common.{AreDotted, AreNamesSound, Bool, Component, Composition, End, Export, Hierarchy, Id, Instance, IsIn, ItemAt, Known, List, Name, Option, Part, Reached, Some, Source, Wire, [], ap, behind, body, bytes_eq, components}
use Rattle.flat_laws.proofs.Common.{cond, export_named, exports_of, false, found, from_map, hierarchy_of, instances_in, interface_known, interface_of, is_composite, is_some, joined_by, kind_named, known_in, length, map_some, name_of}
use Rattle.flat_laws.proofs.Common.{option_and_then, option_and_then_some, option_map, option_map_or, own_connection, own_export, part_named, part_of_body, port_in, reached, reached_by, reached_within, slice_get, subst, suc, sym, true}
use Rattle.flat_laws.proofs.Common.{unknown_interface, wires_of, zero, ℕ, ◌∙◌, ◌∷◌, ◌≡◌}
use Rattle.adl_hierarchy.proofs.KnownNames.{typed, no_unknown, instance_typed, export_known, end_known, IsKnown, dotted_known}
use Rattle.adl_hierarchy.proofs.PartNames.{names_once}
use Rattle.adl_hierarchy.proofs.Repeats.{find_once}
use Rattle.adl_hierarchy.proofs.Whole.{parts_whole}

-- c.j in body k: an instance, and an interface that its component declares
record IsKnownPort (s : Source) (k : ℕ) (port : Name × Name) : Type 0 where
  part : Part
  named : part_named (body (hierarchy_of s) k).parts port.0 ≡ Some part
  component : ItemAt × Component
  stands : slice_get (components s) part.kind ≡ Some component
  declared : is_some (interface_of component.1 port.1) ≡ true

-- what a search downwards reaches: an interface that the component of the leaf declares
pub record IsDeclared (s : Source) (r : Reached) : Type 0 where
  pub component : ItemAt × Component
  pub stands : slice_get (components s) r.part.kind ≡ Some component
  pub declared : is_some (interface_of component.1 r.interface) ≡ true

known_port : (s : Source) → AreNamesSound s → (k : ℕ) (composition : Composition) (words : List Id)
    → (body (hierarchy_of s) k).composition ≡ Some composition
    → IsKnown (known_in s) composition words → (port : Name × Name) → port_in words ≡ Some port → IsKnownPort s k port
known_port s sound k composition words own w port e =
    let h = hierarchy_of s in
    let i = w.instance in
    let j = w.interface in
    let none = no_unknown s sound k composition own in
    let known = instance_typed (known_in s) none.0 composition i none.1 w.stands in
    let type = typed s i.component.name known.0 known.1 in
    let x = from_map (λ (x : Part). x.instance) i (body h k).parts
    (subst (λ is. IsIn i is) (sym (parts_whole s sound k ∙ ap (λ o. option_map_or instances_in o []) own)) w.stands) in
    let number : kind_named s i.component.name ≡ Some x.0.kind = ap (λ (z : Instance). kind_named s z.component.name) (sym x.2)
    ∙ (part_of_body s k x.0 x.1).typed in
    let same : type.number ≡ x.0.kind = let a = type.numbered in cc in
    let named : (i.id.name, j.name) ≡ port = let last = w.last in cc in
    subst (IsKnownPort s k) named (record {
      part = x.0;
      named = ap (λ (z : Instance). part_named (body h k).parts z.id.name) (sym x.2) ∙ find_once name_of (body h k).parts x.0
          (names_once s sound k) x.1;
      component = type.component;
      stands = ap (slice_get (components s)) (sym same) ∙ type.stands;
      declared = ap (λ (z : Known). is_some (z.interface j.name)) type.is_known
          ∙ interface_known (is_some (known.0.interface j.name)) j (ap (λ o. unknown_interface o j) (sym known.1) ∙ w.declared);
    })

reached_declared : (s : Source) → AreNamesSound s → AreDotted (hierarchy_of s) → (n k : ℕ) (port : Name × Name) (r : Reached)
    → IsKnownPort s k port → reached_within (hierarchy_of s) n k port ≡ Some r → IsDeclared s r
reached_declared s sound dotted zero k port r x e = cc
reached_declared s sound dotted (suc n) k port r x e = by_kind (reached_declared s sound dotted n x.part.kind)
    (is_composite h x.part.kind) (ap (option_and_then (reached_by h (reached_within h n) port.1)) (sym x.named) ∙ e)
  where
    h : Hierarchy
    h = hierarchy_of s

    a : ℕ
    a = x.part.kind

    ports : Option (Name × Name)
    ports = option_and_then (λ (y : Export). port_in y.words) (export_named (exports_of (body h a)) port.1)

    here : Reached
    here = record { path = name_of x.part ∷ []; part = x.part; interface = port.1 }

    R : Reached → Type 0
    R z = IsDeclared s z

    by_kind : ((p : Name × Name) (q : Reached) → IsKnownPort s a p → reached_within h n a p ≡ Some q → IsDeclared s q)
        → (b : Bool)
        → cond b (option_map (behind (name_of x.part)) (option_and_then (reached_within h n a) ports)) (Some here) ≡ Some r
        → IsDeclared s r
    by_kind ih false t =
        let same : here ≡ r = cc in
        subst R same (record { component = x.component; stands = x.stands; declared = x.declared })
    by_kind ih true t =
        let m = map_some (behind (name_of x.part)) (option_and_then (reached_within h n a) ports) r t in
        option_and_then_some (reached_within h n a) ports m.0 m.1 (λ p e1 e2.
        option_and_then_some (λ (y : Export). port_in y.words) (export_named (exports_of (body h a)) port.1) p e1 (λ y e3 e4.
        let there = (found (λ (y : Export). bytes_eq port.1 y.target.name) (exports_of (body h a)) y e3).0 in
        let o = own_export (body h a).composition y there in
        let none = no_unknown s sound a o.0 o.1 in
        let w = dotted_known (known_in s) o.0 y.words (dotted.exports a y there)
        (export_known (known_in s) none.0 o.0 y none.1 o.2) in
        let inner = ih p m.0 (known_port s sound a o.0 y.words o.1 w p e4) e2 in
        subst R m.2 (record { component = inner.component; stands = inner.stands; declared = inner.declared })))

-- the interface that an end joins is declared
pub end_declared : (s : Source) → AreNamesSound s → AreDotted (hierarchy_of s) → (k : ℕ) (w : Wire) (e : End) (r : Reached)
    → IsIn w (wires_of (body (hierarchy_of s) k)) → IsIn e w.1.ends → joined_by (hierarchy_of s) k e ≡ Some r → IsDeclared s r
end_declared s sound dotted k w e r i m j =
    let h = hierarchy_of s in
    let o = own_connection (body h k).composition w i in
    let none = no_unknown s sound k o.0 o.1 in
    let d = dotted_known (known_in s) o.0 e.words (dotted.ends k w e i m)
    (end_known (known_in s) none.0 o.0 w.1 e none.1 o.2 m) in
    option_and_then_some (reached h k) (port_in e.words) r j (λ p e1 e2. reached_declared s sound dotted (length h.bodies) k p r
    (known_port s sound k o.0 e.words o.1 d p e1) e2)
