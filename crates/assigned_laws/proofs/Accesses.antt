-- The access that an end has in the flat system is that of the interface that it joins.
use Rattle.std.proofs.Common.{rules}
use Rattle.assigned_laws.proofs.Common.{AreDotted, AreNamesSound, Authority, Body, Connector, EndAt, EndOf, Ended, FlatConnection, FlatEnd, Given, Interface, Item, ItemAt, LabelNumbers, Leaf, None, ObjectKind, Option, Placed, Role, Some, Source}
use Rattle.assigned_laws.proofs.Common.{SourceFile, Strung, access_of, allows, and_from, and_parts, ap, body_number, bytes_eq, codes, cond, false, first_type_fault, flat_of, get_map, gives, hierarchy_of, implied, implies, is_interface, is_some}
use Rattle.assigned_laws.proofs.Common.{items_of_file, leaf_component, leaf_number_is, leaf_of, list_all, list_all-places, members_at, members_in, members_of, members_of_part, not, not-true, option_and_then, option_map_or, over_object, place_by}
use Rattle.assigned_laws.proofs.Common.{place_of, refl, same_kind, settled_of, slice_get, subst, sym, tables_with, true, true≢false, unwrap_or, value_at, ℕ, ◌&&◌, ◌++◌, ◌∙◌, ◌≡◌}
use Rattle.adl_meaning.specs.declared.settled.EndSetting.{EndSetting}
use Rattle.std.proofs.lemmas.Slice.Eq.{bytes_eq-Decides}
use Rattle.adl_ast.specs.declared.component.InterfaceKind.{InterfaceKind}
use Rattle.adl_ast.specs.declared.component.InterfaceKind.TheVariants.{Dataport}
use Rattle.adl_ast.specs.declared.component.Member.TheVariants as members
use Rattle.adl_ast.specs.declared.file.Item.TheVariants as items
use Rattle.adl_meaning.specs.Paths.{leaves as tree_leaves}
use Rattle.adl_settings.specs.Allowed.{access_in, no_access, read_and_write}
use Rattle.adl_settings.specs.EndMeaning.{access_at, end_setting}
use Rattle.adl_settings.specs.Joints.{as_component, as_interface, component_at, has_access, interface_at}
use Rattle.adl_settings.specs.declared.found.Found.{Found}
use Rattle.adl_settings.specs.Meant.{meant, where_set}
use Rattle.adl_settings.specs.NumberedEnds.{joins_interface}
use Rattle.adl_settings.specs.declared.access.Access.{Access}
use Rattle.adl_settings.proofs.EndNumbers.{setting_at_number}
use Rattle.arch_policy.specs.Gives.{leaves}
use Rattle.assigned_laws.proofs.Joined.{Matches}
use Rattle.authorities.specs.declared.authority.Authority.TheVariants.{Read, Write}
use Rattle.conn_rules.specs.Ends.{end_rule}
use Rattle.flat_laws.proofs.EndMembers.{place_by-passes}
use Rattle.flat_laws.specs.Typed.{IsTypedEnd}
use Rattle.flat_laws.proofs.AreTyped.{ends_typed}
use Rattle.cspace_layout.specs.Lookups.{setting_of}

-- ---- interfaces by number

item_interface : (e : Ended) (m : ℕ) (i : Interface) → slice_get (members_of e.item) m ≡ Some (members.Interface i)
    → option_and_then (λ c. option_and_then as_interface (slice_get c.members m)) (as_component e.item) ≡ Some i
item_interface e m i h = search (rules)

member_interface : (s : Source) (a : ItemAt) (m : ℕ) (i : Interface) → slice_get (members_at s a) m ≡ Some (members.Interface i)
    → option_and_then (λ c. option_and_then as_interface (slice_get c.members m)) (component_at s a) ≡ Some i
member_interface s a m i h = search (rules, item_interface)

-- ---- ends at memory

is_dataport_kind : (k : InterfaceKind) → same_kind k Dataport ≡ true → k ≡ Dataport
is_dataport_kind Dataport h = refl
is_dataport_kind _ h = absurd (true≢false (sym h))

-- who may read or write is at a dataport of software
record AtMemory (c : Connector) (r : Role) : Type 0 where
  interface : (end_rule c r).interface ≡ Dataport
  software : (end_rule c r).hardware ≡ false

memory_test : (c : Connector) (r : Role) → same_kind (end_rule c r).interface Dataport && not (end_rule c r).hardware ≡ true
    → AtMemory c r
memory_test c r h = search (rules, and_parts, is_dataport_kind, not-true)

reader : (c : Connector) (r : Role) (o : ObjectKind) → gives c r o Read ≡ true → AtMemory c r
reader c r o h = search (rules, memory_test, implied, over_object, implies)

writer : (c : Connector) (r : Role) (o : ObjectKind) → gives c r o Write ≡ true → AtMemory c r
writer c r o h = search (rules, memory_test, implied, over_object, implies)

module _ (s : Source) (sound : AreNamesSound s) (dotted : AreDotted (hierarchy_of s)) (types : first_type_fault s ≡ None)
    (numbers : LabelNumbers) where
  typed_at : (x : EndAt (flat_of s)) → IsTypedEnd s (flat_of s) x.connection x.end
  typed_at x = ends_typed s sound dotted types x.place x.number x.connection x.end x.here x.stands

  typed_joins : (c : FlatConnection) (e : FlatEnd) → IsTypedEnd s (flat_of s) c e → joins_interface s (flat_of s) e ≡ true
  typed_joins c e d = search (rules, member_interface)

  all_join : (x : EndAt (flat_of s)) → list_all (joins_interface s (flat_of s)) x.connection.ends ≡ true
  all_join x = list_all-places (joins_interface s (flat_of s)) x.connection.ends
      (λ n e at. typed_joins x.connection e (ends_typed s sound dotted types x.place n x.connection e x.here at))

  -- the leaf that the end joins
  leaf_path : (y : Strung) (x : EndAt (flat_of s)) (e : EndOf (hierarchy_of s) y.path y.wire)
      (w : Matches s sound dotted numbers y x e) (leaf : Leaf) → slice_get (flat_of s).leaves x.end.leaf ≡ Some leaf
      → leaf_of (hierarchy_of s) (record { path = y.path ++ w.reach.path; part = w.reach.part }) ≡ leaf
  leaf_path y x e w leaf h =
      let k = hierarchy_of s in
      let p : Placed = record { path = y.path ++ w.reach.path; part = w.reach.part } in
      let n = place_of p (tree_leaves k) w.placed in
      let number : x.end.leaf ≡ n.0 = ap (λ (z : FlatEnd). z.leaf) (sym w.flat) ∙ leaf_number_is s sound n.0 p n.1 in
      let there : slice_get (flat_of s).leaves n.0 ≡ Some (leaf_of k p) = get_map (leaf_of k) (tree_leaves k) n.0 p n.1 in
      let both : Some (leaf_of k p) ≡ Some leaf = sym there ∙ ap (slice_get (flat_of s).leaves) (sym number) ∙ h in
      cc

  -- and the interface
  interface_name : (y : Strung) (x : EndAt (flat_of s)) (e : EndOf (hierarchy_of s) y.path y.wire)
      (w : Matches s sound dotted numbers y x e) (d : IsTypedEnd s (flat_of s) x.connection x.end)
      → d.interface.id.name ≡ e.interface
  interface_name y x e w d =
      let k = hierarchy_of s in
      let p : Placed = record { path = y.path ++ w.reach.path; part = w.reach.part } in
      let leaf = leaf_path y x e w d.leaf d.here in let c = leaf_component s sound p w.placed in
      let b = body_number s w.reach.part.kind c.0 c.1 in
      let ms : members_at s d.leaf.component ≡ c.0.1.members = search (rules, members_of_part) in
      let number : x.end.member ≡ place_by (is_interface w.reach.interface) c.0.1.members = search (rules) in
      let at : slice_get c.0.1.members (place_by (is_interface w.reach.interface) c.0.1.members) ≡ Some
      (members.Interface d.interface) =
      ap (slice_get c.0.1.members) (sym number) ∙ ap (λ ms. slice_get ms x.end.member) (sym ms) ∙ d.joined in
      let is : bytes_eq w.reach.interface d.interface.id.name ≡ true = search (rules, place_by-passes) in
      sym ((bytes_eq-Decides w.reach.interface d.interface.id.name).0 is) ∙ sym w.interface

  -- the settled access of an end at memory
  settled_access : (y : Strung) (x : EndAt (flat_of s)) (e : EndOf (hierarchy_of s) y.path y.wire)
      → Matches s sound dotted numbers y x e → AtMemory x.connection.connector x.end.role
      → (f : Found) × (setting_of (settled_of s) x.place x.number ≡ Some (end_setting f))
      × (access_at f ≡ access_of (hierarchy_of s) e.leaf e.interface)
  settled_access y x e w memory =
      let h = hierarchy_of s in let d = typed_at x in
      let g = setting_at_number s x.place x.number x.connection x.end x.here (all_join x) x.stands in
      let f = g.0 in let at = g.1 in
      let leaves_same : Some f.joint.leaf ≡ Some d.leaf = sym at.leaf ∙ d.here in
      let leaf : f.joint.leaf ≡ d.leaf = cc in
      let interfaces_same : Some f.joint.interface ≡ Some d.interface = search (rules, member_interface) in
      let interface : f.joint.interface ≡ d.interface = cc in
      let rule = end_rule x.connection.connector x.end.role in
      let kinds = and_parts (same_kind d.interface.kind rule.interface) (cond rule.hardware d.leaf.hardware (not d.leaf.hardware))
      d.kind in
      let port : same_kind f.joint.interface.kind Dataport ≡ true = search (rules) in
      let soft : not f.joint.leaf.hardware ≡ true = search (rules) in
      let has : has_access f.joint ≡ true = search (rules, and_from) in
      let path : f.joint.leaf.path ≡ e.leaf = ap (λ (z : Leaf). z.path) (leaf ∙ sym (leaf_path y x e w d.leaf d.here))
      ∙ sym w.path in
      let name : f.joint.interface.id.name ≡ e.interface = ap (λ (z : Interface). z.id.name) interface
      ∙ interface_name y x e w d in
      let V : Option Given → Access = λ o. unwrap_or (meant access_in read_and_write o) no_access in
      let value : f.access ≡ value_at h e.leaf (e.interface ++ codes "_access") = search (rules) in
      (f, g.2, ap (λ b. cond b (V f.access) no_access) has ∙ ap V value)

  memory_of : (y : Strung) (x : EndAt (flat_of s)) (e : EndOf (hierarchy_of s) y.path y.wire)
      → Matches s sound dotted numbers y x e → AtMemory y.wire.0 e.role → AtMemory x.connection.connector x.end.role
  memory_of y x e w m = subst (λ c. AtMemory c x.end.role) (ap (λ (c : FlatConnection). c.connector) w.connection)
      (subst (λ r. AtMemory y.wire.0 r) w.role m)

  pub access_left : (y : Strung) (x : EndAt (flat_of s)) (e : EndOf (hierarchy_of s) y.path y.wire)
      → Matches s sound dotted numbers y x e → (o : ObjectKind) (a : Authority) → gives y.wire.0 e.role o a ≡ true
      → leaves (setting_of (tables_with s numbers).settled x.place x.number) a ≡ allows
      (access_of (hierarchy_of s) e.leaf e.interface) a
  access_left y x e w o Read given =
      let m = memory_of y x e w (reader y.wire.0 e.role o given) in let g = settled_access y x e w m in
      ap (λ (z : Option EndSetting). leaves z Read) g.1 ∙ ap (λ (z : Access). z.read) g.2
  access_left y x e w o Write given =
      let m = memory_of y x e w (writer y.wire.0 e.role o given) in let g = settled_access y x e w m in
      ap (λ (z : Option EndSetting). leaves z Write) g.1 ∙ ap (λ (z : Access). z.write) g.2
  access_left y x e w o _ given = refl
