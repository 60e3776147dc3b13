-- Connections to one dataport of a device find its registers at one address.
use Rattle.spec_laws.proofs.Common.{AreSettingsSound, AreTyped, Connector, EndSetting, FlatConnection, FlatEnd, Hierarchy, Interface, Leaf, Mmio, None, Option, Settled, Some, Source, codes, cond, default_bytes, end_setting, flat_of, hierarchy_of}
use Rattle.spec_laws.proofs.Common.{meaning, meant, memory_paddr, paddr_in, registers, rules, same_Some, same_kind, setting_of, settled_of, size_in, slice_get, to_place, unwrap_or, value_at, where_set, ℕ, ◌&&◌, ◌++◌, ◌∙◌, ◌≡◌}
use Rattle.adl_ast.specs.declared.component.InterfaceKind.TheVariants as interfaces
use Rattle.adl_ast.specs.declared.component.Member.TheVariants as members
use Rattle.adl_meaning.specs.Values.{Given}
use Rattle.adl_settings.specs.Joints.{is_shared}
use Rattle.spec_laws.proofs.SettledEnds.{IsEndFound, end_found}
use Rattle.spec_laws.proofs.MemorySizes.{from_registers, interface_same}

paddr_by : (settled : Settled) (k n : ℕ) (c : FlatConnection) (e : EndSetting) → c.connector ≡ Mmio → to_place c.ends ≡ Some n
    → setting_of settled k n ≡ Some e → memory_paddr settled k c ≡ e.paddr
paddr_by settled k n c e t at is = cc

-- the address of a device's registers, whatever joins them
device_paddr : Hierarchy → Connector → Option Given → Leaf → Interface → ℕ
device_paddr h c shared leaf i =
    let on = same_kind i.kind interfaces.Dataport && leaf.hardware in
    unwrap_or
    (meaning
    (paddr_in
    (unwrap_or
    (meant size_in (default_bytes i)
    (cond (is_shared c) shared (where_set on (value_at h leaf.path (i.id.name ++ codes "_size"))))) 0))
    (where_set on (value_at h leaf.path (i.id.name ++ codes "_paddr")))) 0

module _ (s : Source) (typed : AreTyped s (flat_of s)) (settings : AreSettingsSound s) where
  paddr_here : (k n : ℕ) (c : FlatConnection) (e : FlatEnd) (f : IsEndFound s k n c e) → c.connector ≡ Mmio
      → (end_setting f.found).paddr ≡ device_paddr (hierarchy_of s) Mmio None f.found.joint.leaf f.found.joint.interface
  unfolding device_paddr
  paddr_here k n c e f is = search (rules, device_paddr)

  pub same_paddr : (k n : ℕ) (c d : FlatConnection) (e f : FlatEnd) → slice_get (flat_of s).connections k ≡ Some c
      → slice_get (flat_of s).connections n ≡ Some d → registers c ≡ Some e → registers d ≡ Some f
      → e.leaf ≡ f.leaf → e.member ≡ f.member → memory_paddr (settled_of s) k c ≡ memory_paddr (settled_of s) n d
  same_paddr k n c d e f at there has also leaf_is member_is =
      let h = hierarchy_of s in let a = from_registers c e has in
      let b = from_registers d f also in let x = end_found s typed settings k a.1 c e at a.3 in
      let y = end_found s typed settings n b.1 d f there b.3 in
      let leaf : x.found.joint.leaf ≡ y.found.joint.leaf = search (rules, same_Some) in
      let interface : x.found.joint.interface ≡ y.found.joint.interface = search (rules, interface_same) in
      search (rules, paddr_by, paddr_here, device_paddr)
