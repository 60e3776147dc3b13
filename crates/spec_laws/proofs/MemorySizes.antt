-- The memory of connections: its pages, its address, and the registers of devices, in a source without faults.
use Rattle.spec_laws.proofs.Common.{AreDotted, AreNamesSound, AreSettingsSound, AreTyped, Connector, EndSetting, FlatConnection, FlatEnd, From, Hierarchy, Interface, Leaf, List, Mmio, None, Option, Role, Settled}
use Rattle.spec_laws.proofs.Common.{SharedMemory, Some, Source, To, [], and_parts, ap, arith, codes, cond, default_bytes, end_rule, end_setting, eqb-true, first_type_fault, flat_of, hierarchy_of, is_device_memory, is_kind_of, is_to, is_window, meant}
use Rattle.spec_laws.proofs.Common.{members_at, memory_paddr, memory_pages, memory_place, option_and_then, option_map_or, or_right, position_found, refl, registers, registers_in, same_Some, same_kind, same_port, setting_of, settled_of, size_in}
use Rattle.spec_laws.proofs.Common.{rules, slice_get, some_end, subst, sym, to_place, true, unwrap_or, value_at, where_set, ℕ, ◌%◌, ◌&&◌, ◌*◌, ◌++◌, ◌+◌, ◌/◌, ◌<◌, ◌==◌, ◌^◌, ◌||◌, ◌∙◌, ◌∷◌, ◌≡◌, ◌≤◌}
use Rattle.adl_ast.specs.declared.component.InterfaceKind.TheVariants as interfaces
use Rattle.adl_ast.specs.declared.component.Member.TheVariants as members
use Rattle.adl_meaning.specs.Values.{Given}
use Rattle.adl_settings.specs.Joints.{is_shared}
use Rattle.spec_laws.proofs.SettledEnds.{IsEndFound, end_found, setting_from}
use Rattle.spec_laws.proofs.Sizes.{IsMeasured, measured, size_of_end}
use Rattle.spec_laws.proofs.SpaceBounds.{HaveRegisters, at_position}

-- ---- bounds

record IsMemory (pages paddr : ℕ) : Type 0 where
  most : pages ≤ 65536
  fits : paddr + 4096 * pages ≤ 2 ^ 48
  aligned : paddr % 4096 ≡ 0

no_memory : IsMemory 0 0
no_memory = record { most = omega arith; fits = omega arith; aligned = omega arith }

of_setting : (e : EndSetting) → IsMeasured e → IsMemory (e.bytes / 4096) e.paddr
of_setting e m = record { most = omega (arith, m.most); fits = omega (arith, m.fits); aligned = m.aligned }

memory_is : (s : Source) (k : ℕ) (c : FlatConnection)
    → IsMemory (memory_pages (settled_of s) k c) (memory_paddr (settled_of s) k c)
memory_is s k c = by_place (memory_place c.connector c.ends) where
  by_setting : (n : ℕ) (o : Option EndSetting) → setting_of (settled_of s) k n ≡ o
      → IsMemory (option_map_or (λ x. x.bytes / 4096) o 0) (option_map_or (λ x. x.paddr) o 0)
  by_setting n None e = no_memory
  by_setting n (Some x) e = let f = setting_from s k n x e in of_setting x (subst IsMeasured f.1 (measured f.0))

  by_place : (o : Option ℕ) → IsMemory (option_map_or (λ x. x.bytes / 4096) (option_and_then (setting_of (settled_of s) k) o) 0)
      (option_map_or (λ x. x.paddr) (option_and_then (setting_of (settled_of s) k) o) 0)
  by_place None = no_memory
  by_place (Some n) = by_setting n (setting_of (settled_of s) k n) refl

pub pages_fit : (s : Source) (k : ℕ) (c : FlatConnection) → memory_pages (settled_of s) k c ≤ 65536
pages_fit s k c = (memory_is s k c).most

pub addresses_fit : (s : Source) (k : ℕ) (c : FlatConnection)
    → memory_paddr (settled_of s) k c + 4096 * memory_pages (settled_of s) k c ≤ 2 ^ 48
addresses_fit s k c = (memory_is s k c).fits

pub addresses_whole : (s : Source) (k : ℕ) (c : FlatConnection) → memory_paddr (settled_of s) k c % 4096 ≡ 0
addresses_whole s k c = (memory_is s k c).aligned

-- ---- the end at the registers

is_to_role : (r : Role) → is_to r ≡ true → r ≡ To
is_to_role From e = cc
is_to_role To e = refl

-- the end at which the memory of a connection to a device is settled
record IsLed (c : FlatConnection) : Type 0 where
  place : ℕ
  end : FlatEnd
  first : to_place c.ends ≡ Some place
  there : slice_get c.ends place ≡ Some end
  role : end.role ≡ To

led_by : (c : FlatConnection) (n : ℕ) (e : FlatEnd) → slice_get c.ends n ≡ Some e → e.role ≡ To → IsLed c
led_by c n e at to =
    let m = position_found (λ (f : FlatEnd). is_to f.role) c.ends n e at (ap is_to to) in
    let y = at_position (λ (f : FlatEnd). is_to f.role) c.ends m.0 e m.1 in
    record { place = m.0; end = y.0; first = m.1; there = y.1; role = is_to_role y.0.role y.2 }

registers_of : (c : FlatConnection) → c.connector ≡ Mmio → (l : IsLed c) → registers c ≡ Some l.end
registers_of c t l = ap (λ z. registers_in z c.ends) t ∙ ap (λ o. option_and_then (slice_get c.ends) o) l.first ∙ l.there

-- and only such a connection has one
pub from_registers : (c : FlatConnection) (e : FlatEnd) → registers c ≡ Some e → (c.connector ≡ Mmio) × (n : ℕ)
    × (to_place c.ends ≡ Some n) × (slice_get c.ends n ≡ Some e)
from_registers c e r = search (rules)

-- ---- pages by the settings of an end

pages_by : (settled : Settled) (k n : ℕ) (c : FlatConnection) (e : EndSetting) → memory_place c.connector c.ends ≡ Some n
    → setting_of settled k n ≡ Some e → memory_pages settled k c ≡ e.bytes / 4096
pages_by settled k n c e at is = cc

place_of_mmio : (c : FlatConnection) (n : ℕ) → c.connector ≡ Mmio → to_place c.ends ≡ Some n
    → memory_place c.connector c.ends ≡ Some n
place_of_mmio c n t e = ap (λ z. memory_place z c.ends) t ∙ e

first_of : (es : List FlatEnd) (n : ℕ) (e : FlatEnd) → slice_get es n ≡ Some e → (f : FlatEnd) × (slice_get es 0 ≡ Some f)
first_of [] n e at = cc
first_of (f ∷ es) n e at = (f, refl)

-- the bytes of a device's registers, whatever joins them
device_bytes : Hierarchy → Connector → Option Given → Leaf → Interface → ℕ
device_bytes h c shared leaf i =
    let on = same_kind i.kind interfaces.Dataport && leaf.hardware in
    cond (is_shared c || on)
    (unwrap_or
    (meant size_in (default_bytes i)
    (cond (is_shared c) shared (where_set on (value_at h leaf.path (i.id.name ++ codes "_size"))))) 0) 0

pub interface_same : (i j : Interface) → Some (members.Interface i) ≡ Some (members.Interface j) → i ≡ j
interface_same i j e = cc

module _ (s : Source) (sound : AreNamesSound s) (dotted : AreDotted (hierarchy_of s)) (types : first_type_fault s ≡ None)
    (typed : AreTyped s (flat_of s)) (settings : AreSettingsSound s) where
  -- the pages of shared memory, and of registers
  shared_some : (k n : ℕ) (c : FlatConnection) (e : FlatEnd) → slice_get (flat_of s).connections k ≡ Some c
      → slice_get c.ends n ≡ Some e → c.connector ≡ SharedMemory → 0 < memory_pages (settled_of s) k c
  shared_some k n c e at there is =
      let first = first_of c.ends n e there in let f = end_found s typed settings k 0 c first.0 at first.1 in
      let size = size_of_end f.found f.good (ap (λ (z : FlatConnection). is_shared z.connector || is_device_memory f.found.joint)
      f.connection ∙ ap (λ z. is_shared z || is_device_memory f.found.joint) is) in
      omega (arith, pages_by (settled_of s) k 0 c (end_setting f.found) (ap (λ z. memory_place z c.ends) is) f.setting, size.some)

  device_memory : (k n : ℕ) (c : FlatConnection) (e : FlatEnd) (f : IsEndFound s k n c e) → c.connector ≡ Mmio → e.role ≡ To
      → is_device_memory f.found.joint ≡ true
  device_memory k n c e f is to =
      subst (λ r. is_kind_of (end_rule Mmio r) (record {
        interface = f.found.joint.interface;
        hardware = f.found.joint.leaf.hardware;
      }) ≡ true) to
      (subst (λ x. is_kind_of (end_rule x e.role) (record {
        interface = f.found.joint.interface;
        hardware = f.found.joint.leaf.hardware;
      }) ≡ true) is f.kind)

  led : (k : ℕ) (c : FlatConnection) → slice_get (flat_of s).connections k ≡ Some c → c.connector ≡ Mmio → IsLed c
  led k c at is = let t = some_end s sound dotted types k c at To in led_by c t.0 t.1 t.2 t.3

  registers_some : (k : ℕ) (c : FlatConnection) → slice_get (flat_of s).connections k ≡ Some c → c.connector ≡ Mmio
      → 0 < memory_pages (settled_of s) k c
  registers_some k c at is =
      let l = led k c at is in let f = end_found s typed settings k l.place c l.end at l.there in
      let size = size_of_end f.found f.good (or_right (is_shared f.found.joint.connection.connector)
      (is_device_memory f.found.joint) (device_memory k l.place c l.end f is l.role)) in
      let pages = pages_by (settled_of s) k l.place c (end_setting f.found) (place_of_mmio c l.place is l.first) f.setting in
      omega (arith, pages, size.some)

  pub memory_some : (k n : ℕ) (c : FlatConnection) (e : FlatEnd) → slice_get (flat_of s).connections k ≡ Some c
      → slice_get c.ends n ≡ Some e → is_window c.connector e.role ≡ true → 0 < memory_pages (settled_of s) k c
  memory_some k n c e at there w = by_connector c.connector refl w where
    by_connector : (z : Connector) → c.connector ≡ z → is_window z e.role ≡ true → 0 < memory_pages (settled_of s) k c
    by_connector SharedMemory is w = shared_some k n c e at there is
    by_connector Mmio is w = registers_some k c at is
    by_connector _ is w = cc

  -- the bytes at the registers are those of the device
  bytes_here : (k n : ℕ) (c : FlatConnection) (e : FlatEnd) (f : IsEndFound s k n c e) → c.connector ≡ Mmio
      → (end_setting f.found).bytes ≡ device_bytes (hierarchy_of s) Mmio None f.found.joint.leaf f.found.joint.interface
  unfolding device_bytes
  bytes_here k n c e f is = search (rules, device_bytes)

  same_pages : (k n : ℕ) (c d : FlatConnection) (e f : FlatEnd) → slice_get (flat_of s).connections k ≡ Some c
      → slice_get (flat_of s).connections n ≡ Some d → registers c ≡ Some e → registers d ≡ Some f → same_port e f ≡ true
      → memory_pages (settled_of s) k c ≡ memory_pages (settled_of s) n d
  same_pages k n c d e f at there has also same =
      let h = hierarchy_of s in let a = from_registers c e has in
      let b = from_registers d f also in let x = end_found s typed settings k a.1 c e at a.3 in
      let y = end_found s typed settings n b.1 d f there b.3 in
      let port = and_parts (f.leaf == e.leaf) (f.member == e.member) same in
      let leaf : x.found.joint.leaf ≡ y.found.joint.leaf =
      same_Some _ _ (sym x.leaf ∙ ap (slice_get (flat_of s).leaves) (sym (eqb-true f.leaf e.leaf port.0)) ∙ y.leaf) in
      let interface : x.found.joint.interface ≡ y.found.joint.interface =
      interface_same _ _ (sym x.interface ∙ ap (λ (z : Leaf). slice_get (members_at s z.component) e.member) leaf
      ∙ ap (slice_get (members_at s y.found.joint.leaf.component)) (sym (eqb-true f.member e.member port.1)) ∙ y.interface) in
      let bytes : (end_setting x.found).bytes ≡ (end_setting y.found).bytes =
      bytes_here k a.1 c e x a.0 ∙ ap (λ z. device_bytes h Mmio None z x.found.joint.interface) leaf
      ∙ ap (λ z. device_bytes h Mmio None y.found.joint.leaf z) interface ∙ sym (bytes_here n b.1 d f y b.0) in
      pages_by (settled_of s) k a.1 c (end_setting x.found) (place_of_mmio c a.1 a.0 a.2) x.setting ∙ ap (λ z. z / 4096) bytes
      ∙ sym (pages_by (settled_of s) n b.1 d (end_setting y.found) (place_of_mmio d b.1 b.0 b.2) y.setting)

  pub registers_are : HaveRegisters (flat_of s) (settled_of s)
  registers_are = record {
    found = λ k n c e at there is. let l = led k c at is in (l.end, registers_of c is l);
    same = same_pages;
  }
