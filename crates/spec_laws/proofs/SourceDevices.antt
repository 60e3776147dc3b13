-- The flat system of a source in which no fault of names or types stands has its devices where the connector table has them.
use Rattle.spec_laws.proofs.Common.{AreDotted, Connector, FlatConnection, FlatEnd, HasDevice, Interrupt, IsFlat, IsIn, Leaf, Mmio, None, Some, allowed, allows, alone, and_parts, ap, arith, at_place, cond}
use Rattle.spec_laws.proofs.Common.{count_of, end_rule, ends_typed, false, first_type_fault, from_get_map, hardware_fits, in_get, is_at_device, leaf_listed, leaf_owned, leb_tells, nat_le, refl, same_role, same_role_self, slice_get_within}
use Rattle.spec_laws.proofs.Common.{rules, some_end, strung_of, subst, sym, true, true≢false, ℕ, ◌<◌, ◌∙◌, ◌≡◌}
use Rattle.adl_meaning.specs.Prelude.{AreNamesSound, End, From, Role, Source, Strung, To, connections, domain_number, domain_of, flat_connection, flat_end, flat_ends, flat_of, hierarchy_of, is_hardware, leaf_of, leaves, slice_get}
use Rattle.adl_ast.specs.declared.component.Member.TheVariants as members
use Rattle.adl_hierarchy.proofs.Joining.{all_joined, end_numbers_kept, ends_kept}
use Rattle.adl_types.proofs.Typed.{well_typed}
use Rattle.arch_policy.specs.Ends.{EndAt}

-- ---- of the table

-- a connector has devices at the ends of one role
one_role : (c : Connector) (r q : Role) → (end_rule c r).hardware ≡ true → (end_rule c q).hardware ≡ true → r ≡ q
one_role c From From h k = refl
one_role c To To h k = refl
one_role Interrupt From To h k = absurd (true≢false (sym k))
one_role Mmio To From h k = absurd (true≢false (sym k))
one_role _ _ _ h k = absurd (true≢false (sym h))

just_one : (n : ℕ) → nat_le 1 n ≡ true → nat_le n 1 ≡ true → n ≡ 1
just_one n low high = grind (arith, leb_tells 1 n, leb_tells n 1)

-- and one of them
one_allowed : (c : Connector) (r : Role) (n : ℕ) → (end_rule c r).hardware ≡ true → allows (end_rule c r) n ≡ true → n ≡ 1
one_allowed Mmio To n h a = let w = and_parts (nat_le 1 n) (nat_le n 1) a in just_one n w.0 w.1
one_allowed Interrupt From n h a = let w = and_parts (nat_le 1 n) (nat_le n 1) a in just_one n w.0 w.1
one_allowed _ From n h a = absurd (true≢false (sym h))
one_allowed _ To n h a = absurd (true≢false (sym h))

module _ (s : Source) (sound : AreNamesSound s) (dotted : AreDotted (hierarchy_of s)) (types : first_type_fault s ≡ None) where
  -- ---- leaves

  domain_of_software : (n : ℕ) (leaf : Leaf) → slice_get (flat_of s).leaves n ≡ Some leaf → leaf.hardware ≡ false
      → (d : ℕ) × (leaf.domain ≡ Some d)
  domain_of_software n leaf e soft =
      let h = hierarchy_of s in let x = from_get_map (leaf_of h) (leaves h) n leaf e in
      let d = domain_number h (domain_of h x.0.path) in
      let hard : is_hardware h x.0.part ≡ false = ap (λ (z : Leaf). z.hardware) x.2 ∙ soft in
      (d, ap (λ (z : Leaf). z.domain) (sym x.2) ∙ ap (λ b. cond b None (Some d)) hard)

  domain_of_hardware : (n : ℕ) (leaf : Leaf) → slice_get (flat_of s).leaves n ≡ Some leaf → leaf.hardware ≡ true
      → leaf.domain ≡ None
  domain_of_hardware n leaf e hard = search (rules, from_get_map)

  -- the leaf of an end is a device just where the table has it
  leaf_hardware : (x : EndAt (flat_of s)) (leaf : Leaf) → slice_get (flat_of s).leaves x.end.leaf ≡ Some leaf
      → leaf.hardware ≡ is_at_device x
  leaf_hardware x leaf e =
      let t = ends_typed s sound dotted types x.place x.number x.connection x.end x.here x.stands in
      let both : Some leaf ≡ Some t.leaf = sym e ∙ t.here in
      let same : leaf ≡ t.leaf = cc in
      ap (λ (z : Leaf). z.hardware) same ∙ hardware_fits (end_rule x.connection.connector x.end.role)
      (record { interface = t.interface; hardware = t.leaf.hardware }) t.kind

  -- ---- ends of devices

  -- a connection has one end in the role of its devices
  one_end : (y : Strung) → IsIn y (connections (hierarchy_of s)) → (r : Role) → (end_rule y.wire.0 r).hardware ≡ true
      → count_of r y.wire.1.ends ≡ 1
  one_end y i r hard = one_allowed y.wire.0 r (count_of r y.wire.1.ends) hard
      (allowed y.wire.0 r y.wire.1.ends ((well_typed s sound types y i).counts))

  connector_is : (y : Strung) (c : FlatConnection) → flat_connection (hierarchy_of s) y ≡ c → y.wire.0 ≡ c.connector
  connector_is y c e = ap (λ (z : FlatConnection). z.connector) e

  has_device : (k : ℕ) (c : FlatConnection) → slice_get (flat_of s).connections k ≡ Some c → (r : Role)
      → (end_rule c.connector r).hardware ≡ true → HasDevice (flat_of s) k
  has_device k c here r hard =
      let d = some_end s sound dotted types k c here r in
      record {
        at = record { place = k; connection = c; here = here; number = d.0; end = d.1; stands = d.2 };
        place = refl;
        device = ap (λ r. (end_rule c.connector r).hardware) d.3 ∙ hard;
      }

  -- the end of the text under the number of an end
  record EndOf (y : Strung) (x : EndAt (flat_of s)) : Type 0 where
    end : End
    stands : slice_get y.wire.1.ends x.number ≡ Some end
    role : end.role ≡ x.end.role

  end_of : (y : Strung) → IsIn y (connections (hierarchy_of s)) → (x : EndAt (flat_of s))
      → flat_connection (hierarchy_of s) y ≡ x.connection → EndOf y x
  end_of y i x same =
      let h = hierarchy_of s in
      let stands : slice_get (flat_ends h y) x.number ≡ Some x.end = search (rules) in
      let end = at_place y.wire.1.ends x.number (subst (λ n. x.number < n) (ends_kept s sound dotted y i)
      (slice_get_within (flat_ends h y) x.number x.end stands)) in
      let r = all_joined s sound dotted y end.0 i (in_get y.wire.1.ends x.number end.0 end.1) in
      let both : Some (flat_end h y.path end.0 r.0) ≡ Some x.end = search (rules, end_numbers_kept) in
      let is : flat_end h y.path end.0 r.0 ≡ x.end = cc in
      record { end = end.0; stands = end.1; role = ap (λ (z : FlatEnd). z.role) is }

  one_number : (x z : EndAt (flat_of s)) → z.place ≡ x.place → is_at_device x ≡ true → is_at_device z ≡ true → z.number ≡ x.number
  one_number x z place a b =
      let y = strung_of s x.place x.connection x.here in
      let both : Some x.connection ≡ Some z.connection = search (rules) in
      let connection : x.connection ≡ z.connection = cc in
      let e = end_of y.0 y.1 x y.2 in let f = end_of y.0 y.1 z (y.2 ∙ connection) in
      let role : z.end.role ≡ x.end.role = search (rules, one_role) in
      let one = one_end y.0 y.1 x.end.role (ap (λ c. (end_rule c x.end.role).hardware) (connector_is y.0 x.connection y.2) ∙ a) in
      let is : (r : Role) → r ≡ x.end.role → same_role r x.end.role ≡ true = search (rules, same_role_self) in
      alone (λ (e : End). same_role e.role x.end.role) y.0.wire.1.ends z.number x.number f.end e.end (omega (arith, one)) f.stands
      e.stands (is f.end.role (f.role ∙ role)) (is e.end.role e.role)

  pub devices_flat : IsFlat s (flat_of s)
  devices_flat =
      let h = hierarchy_of s in
      record {
        listed = λ l d leaf e f. leaf_listed h l d leaf e f;
        owned = λ d l domain e i. leaf_owned h d l domain e i;
        joined = λ x.
            let t = ends_typed s sound dotted types x.place x.number x.connection x.end x.here x.stands in
            record { leaf = t.leaf; here = t.here; member = members.Interface t.interface; joins = t.joined };
        software = λ x leaf soft e. domain_of_software x.end.leaf leaf e (leaf_hardware x leaf e ∙ soft);
        hardware = λ x leaf hard e. domain_of_hardware x.end.leaf leaf e (leaf_hardware x leaf e ∙ hard);
        interrupts = λ k c e is. has_device k c e From (ap (λ z. (end_rule z From).hardware) is);
        registers = λ k c e is. has_device k c e To (ap (λ z. (end_rule z To).hardware) is);
        one_device = λ x y place a b. one_number x y place a b;
      }
