-- The ends of a source in which no fault of names or types stands are typed.
use Rattle.flat_laws.proofs.Common.{AreDotted, AreNamesSound, AreTyped, Body, Component, Connector, FlatConnection, FlatEnd, None, Part, Role, Source, ap, body_number, end_rule, first_type_fault, flat_of, hierarchy_of, is_hardware, is_interface}
use Rattle.flat_laws.proofs.Common.{is_kind_of, is_there, item_of, leaf_of, members_at, option_map_or, place_by, slice_get, subst, sym, true, well_typed, ◌∙◌, ◌≡◌}
use Rattle.adl_hierarchy.proofs.Connections.{connections_stand}
use Rattle.adl_program.proofs.Joined.{joined_leaf}
use Rattle.flat_laws.proofs.Declared.{end_declared}
use Rattle.flat_laws.proofs.EndMembers.{interface_placed}
use Rattle.flat_laws.proofs.FlatEnds.{strung_of, end_of}
use Rattle.flat_laws.proofs.FlatLeaves.{members_of_part}

pub ends_typed : (s : Source) → AreNamesSound s → AreDotted (hierarchy_of s) → first_type_fault s ≡ None → AreTyped s (flat_of s)
ends_typed s sound dotted none k n c e f g =
    let h = hierarchy_of s in
    let x = strung_of s k c f in
    let d = end_of s sound n c e x.0 x.1 x.2 g in
    let r = d.reach in
    let l = end_declared s sound dotted x.0.inside x.0.wire d.end r ((connections_stand s sound x.0).0 x.1).1 d.stands d.joined in
    let own = body_number s r.part.kind l.component l.stands in
    let ms = l.component.1.members in
    let i = is_there _ l.declared in
    let placed = interface_placed l.component.1 r.interface i.0 i.1 in
    let there : members_at s (item_of h d.placed.part) ≡ ms = ap (λ (z : Part). members_at s (item_of h z)) d.is_part
    ∙ members_of_part s r.part l.component l.stands in
    let number : e.member ≡ place_by (is_interface r.interface) ms = ap (λ (z : FlatEnd). z.member) (sym d.flat)
    ∙ ap (λ (b : Body). option_map_or (λ (c : Component). place_by (is_interface r.interface) c.members) b.component 0) own in
    let leaf = joined_leaf h x.0.inside d.end r l.component.1 i.0 d.joined (ap (λ (b : Body). b.component) own) placed in
    let P : Connector → Role → Part → Type 0 =
    λ k r z. is_kind_of (end_rule k r) (record { interface = i.0; hardware = is_hardware h z }) ≡ true in
    let kind : P x.0.wire.0 d.end.role r.part = ap (λ o. option_map_or (is_kind_of (end_rule x.0.wire.0 d.end.role)) o true)
    (sym leaf) ∙ (well_typed s sound none x.0 x.1).kinds d.end d.stands in
    record {
      leaf = leaf_of h d.placed;
      here = d.leaf;
      interface = i.0;
      joined = ap (λ ms. slice_get ms e.member) there ∙ ap (slice_get ms) number ∙ placed;
      kind = subst (λ z. P c.connector e.role z) (sym d.is_part)
          (subst (λ r. P c.connector r d.reach.part) (ap (λ (z : FlatEnd). z.role) d.flat)
          (subst (λ k. P k d.end.role d.reach.part) (ap (λ (z : FlatConnection). z.connector) x.2) kind));
    }
