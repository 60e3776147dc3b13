-- Each object of connected tables belongs to a domain, a connection or a device that is there and has a label.
use Rattle.std.proofs.Common.{rules}
use Rattle.camkes_tool.proofs.Common.{Tables}
use Rattle.camkes_tool.proofs.BackCommon.{Bool, Entry, FlatConnection, FlatEnd, IsIn, None, OfConnection, OfLeaf, Option, Owner, Some, [], ap, false, frame_owner, from_gather, from_map, in_append, in_place, inl, inr, irq_owner, label_of}
use Rattle.camkes_tool.proofs.BackCommon.{number_of, option_map_or, range_with_len, refl, slice_get, spec_of, subst, sym, true, ℕ, ◌∙◌, ◌≡◌}
use Rattle.adl_meaning.specs.declared.connector.Connector.{Connector}
use Rattle.adl_meaning.specs.declared.connector.Connector.TheVariants.{SharedMemory, Interrupt}
use Rattle.arch_policy.specs.Owners.{has_label}
use Rattle.arch_policy.specs.Tables.{IsThere as HasLabel}
use Rattle.spec_laws.proofs.Devices.{device_found}
use Rattle.spec_laws.proofs.Mapped.{at_registers}
use Rattle.spec_laws.proofs.Whose.{device_at, entry_is, label_there, labels, owner_of}
use Rattle.spec_laws.specs.Connected.{IsConnected}
use Rattle.spec_laws.specs.Policy.{given_tables}
use Rattle.system_spec.proofs.There.{IsThere, Notifies}
use Rattle.system_spec.specs.declared.part.What.{What}
use Rattle.system_spec.specs.declared.part.What.TheVariants.{CNodeOf, EndpointOf, NotificationOf, IrqOf, FrameOf}
use Rattle.vspace_layout.specs.Frames.{frames, memory_part, own_part, register_part, shared_part}
use Rattle.vspace_layout.specs.Memory.{is_shared, registers}
use Rattle.vspace_layout.specs.declared.owner.Owner.TheVariants as owners
use Rattle.vspace_layout.specs.declared.spaces.FrameInfo.{FrameInfo}
use Rattle.vspace_layout.specs.declared.spaces.Spaces.{Spaces}
use Rattle.vspace_layout.proofs.Standing.{registers_mmio}

shared_labelled : (c : Connector) → is_shared c ≡ true → has_label c ≡ true
shared_labelled SharedMemory e = refl
shared_labelled _ e = absurd cc

module _ (t : Tables) (h : IsConnected t) where
  -- ---- frames

  abbrev IsLabelled : FrameInfo → Type 0
  IsLabelled x = HasLabel t.flat (frame_owner x.owner)

  same_frame : (x y : FrameInfo) → x ≡ y → IsLabelled x → IsLabelled y
  same_frame x y e l = subst (λ (z : FrameInfo). HasLabel t.flat (frame_owner z.owner)) e l

  of_own : (x : FrameInfo) → IsIn x (own_part (given_tables t)) → IsLabelled x
  of_own x i = search (rules, from_gather, same_frame)

  of_shared : (x : FrameInfo) → IsIn x (shared_part t.flat t.settled) → IsLabelled x
  of_shared x i = search (rules, from_gather, slice_get, from_map, range_with_len, same_frame, shared_labelled)

  -- the leaf at registers is a device
  at_device : (k : ℕ) (c : FlatConnection) (e : FlatEnd) → slice_get t.flat.connections k ≡ Some c → registers c ≡ Some e
      → HasLabel t.flat (OfLeaf e.leaf)
  at_device k c e at has =
      let v = at_registers t h k c at (registers_mmio c.connector c.ends e has) in
      let j = h.flat.joined v.at in
      let none = h.flat.hardware v.at j.leaf v.device j.here in
      let both : Some v.at.end ≡ Some e = sym v.has ∙ has in
      let same : v.at.end ≡ e = cc in
      subst (λ (z : FlatEnd). HasLabel t.flat (OfLeaf z.leaf)) same (j.leaf, j.here, none)

  of_registers : (x : FrameInfo) → IsIn x (register_part t.flat t.settled) → IsLabelled x
  of_registers x i = search (rules, from_gather, from_map, range_with_len, same_frame, slice_get, option_map_or, at_device)

  of_frame : (f : ℕ) (x : FrameInfo) → slice_get t.spaces.frames f ≡ Some x → IsLabelled x
  of_frame f x at =
      let g = given_tables t in
      let there : slice_get (frames g) f ≡ Some x = ap (λ (z : Spaces). slice_get z.frames f) (sym h.spaces) ∙ at in
      elim (in_append x (own_part g) (memory_part t.flat t.settled) (in_place x (frames g) f there)) [
        | inl i ↦ of_own x i
        | inr i ↦ search (rules, in_append, of_shared, of_registers)
      ]

  -- ---- owners

  notified : (k : ℕ) (c : FlatConnection) → slice_get t.flat.connections k ≡ Some c → Notifies c.connector
      → HasLabel t.flat (OfConnection k)
  notified k c at (inl e) = (c, at, ap has_label e)
  notified k c at (inr e) = (c, at, ap has_label e)

  of_irq : (k : ℕ) (c : FlatConnection) → slice_get t.flat.connections k ≡ Some c → c.connector ≡ Interrupt
      → HasLabel t.flat (device_at t k)
  of_irq k c at e =
      let d = device_found t h.flat k c at (h.flat.interrupts k c at e) in
      let j = h.flat.joined d.at in
      let none = h.flat.hardware d.at j.leaf d.device j.here in
      let own : device_at t k ≡ OfLeaf d.at.end.leaf = ap (λ z. option_map_or (irq_owner k) z (OfConnection k)) at ∙ d.owner in
      subst (λ z. HasLabel t.flat z) (sym own) (j.leaf, j.here, none)

  owner_there : (w : What) → IsThere t w → HasLabel t.flat (owner_of t w)
  owner_there (CNodeOf d) w = w
  owner_there (EndpointOf k) w = (w.0, w.1, ap has_label w.2)
  owner_there (NotificationOf k) w = notified k w.0 w.1 w.2
  owner_there (IrqOf k) w = of_irq k w.0 w.1 w.2
  owner_there (FrameOf f) w = search (rules, option_map_or, frame_owner, of_frame)
  owner_there _ w = w.0

  -- ---- labels of objects

  -- the label of an object is that of an owner that has one
  pub record OwnerAt (n : ℕ) : Type 0 where
    pub owner : Owner
    pub there : HasLabel t.flat owner
    pub is : label_of (labels t) n ≡ number_of t.numbers owner

  pub object_owner : (n : ℕ) (e : Entry) → slice_get (spec_of t).entries n ≡ Some e → OwnerAt n
  object_owner n e at =
      let w = entry_is t n e at in
      search (rules, owner_of, owner_there, label_of, labels, label_there)
