-- What ends are given over the objects of their connections, by the table and by the rights of their capabilities.
use Rattle.spec_laws.proofs.Common.{AsyncSend, Authority, Bool, Connector, EndSetting, From, Handle, Interrupt, Kind, Mmio, NONE, Notification, ObjectKind, OfDevice, OfEndpoint, OfFrames, OfIrq, OfNotification, Option, Read, Role, Rpc}
use Rattle.spec_laws.proofs.Common.{SharedMemory, To, Write, and_parts, end_rights, end_rule, false, gives, has_label, inl, inr, is_object, is_window, kind_confers, not, or_cases, plain_kind, refl, same_object, sym, true, true≢false, ◌&&◌, ◌==◌}
use Rattle.spec_laws.proofs.Common.{rules, ◌||◌, ◌∙◌, ◌≡◌, ◌⊎◌}
use Rattle.cap_model.specs.declared.kind.Kind.TheVariants as kinds
use Rattle.arch_policy.specs.Gives.{leaves}
use Rattle.arch_policy.proofs.Given.{at_authority, at_end, implied, implies, over_all, over_object}
use Rattle.reach_laws.proofs.Given.{fits, fitted}
use Rattle.spec_laws.proofs.Used.{has_slot}

-- the object that the capability of an end leads to
abbrev pub joint_kind : Connector → Kind
joint_kind Rpc = kinds.Endpoint
joint_kind _ = kinds.Notification

abbrev pub joint_object : Connector → ObjectKind
joint_object Rpc = OfEndpoint
joint_object _ = OfNotification

abbrev same_truth : Bool → Bool → Bool
same_truth true b = b
same_truth false b = not b

truth_is : (a b : Bool) → same_truth a b ≡ true → a ≡ b
truth_is true false h = absurd (true≢false (sym h))
truth_is false true h = absurd (true≢false (sym h))
truth_is _ _ h = refl

-- the rights of an end's capability confer just what the table gives the end over its connection's object
pub row_law : (c : Connector) (r : Role) (a : Authority) → has_slot c r ≡ true
    → kind_confers (joint_kind c) (end_rights c r) a ≡ gives c r (joint_object c) a
row_law c r a s = search (rules, truth_is, implied, has_slot, at_authority, implies)

-- and none of them is G on an endpoint
pub row_plain : (c : Connector) (r : Role) → has_slot c r ≡ true → plain_kind (joint_kind c) (end_rights c r) ≡ true
row_plain c r s =
    implied (has_slot c r) _ (at_end (λ c r. implies (has_slot c r) (plain_kind (joint_kind c) (end_rights c r))) refl c r) s

-- an end with a slot is of software, and its connection has a label
pub slot_soft : (c : Connector) (r : Role) → has_slot c r ≡ true → (end_rule c r).hardware ≡ false
slot_soft c r s = search (rules, truth_is, implied, has_slot, at_end, implies)

pub slot_labelled : (c : Connector) (r : Role) → has_slot c r ≡ true → has_label c ≡ true
slot_labelled c r s = implied (has_slot c r) _ (at_end (λ c r. implies (has_slot c r) (has_label c)) refl c r) s

abbrev pub is_frames : ObjectKind → Bool
is_frames o = same_object o OfFrames || same_object o OfDevice

-- access takes nothing but what is given over frames
pub joint_leaves : (c : Connector) (r : Role) (o : ObjectKind) (s : Option EndSetting) (a : Authority) → is_frames o ≡ false
    → gives c r o a ≡ true → leaves s a ≡ true
joint_leaves c r o s Read f h =
    absurd
    (true≢false
    (sym (implied (gives c r o Read) (is_frames o) (over_object (λ c r o. implies (gives c r o Read) (is_frames o)) refl c
    r o) h) ∙ f))
joint_leaves c r o s Write f h =
    absurd
    (true≢false
    (sym (implied (gives c r o Write) (is_frames o) (over_object (λ c r o. implies (gives c r o Write) (is_frames o)) refl c
    r o) h) ∙ f))
joint_leaves c r o s _ f h = refl

pub joint_no_frames : (c : Connector) → is_frames (joint_object c) ≡ false
joint_no_frames Notification = refl
joint_no_frames _ = refl

-- ---- who is given what, over what

abbrev is_access : Authority → Bool
is_access Read = true
is_access Write = true
is_access _ = false

access_is : (a : Authority) → is_access a ≡ true → (a ≡ Read) ⊎ (a ≡ Write)
access_is Read h = inl refl
access_is Write h = inr refl
access_is _ h = absurd (true≢false (sym h))

pub only_handle : (a : Authority) → kind_confers kinds.Irq NONE a ≡ true → a ≡ Handle
only_handle Handle h = refl
only_handle _ h = absurd (true≢false (sym h))

pub record OfSlot (c : Connector) (r : Role) (o : ObjectKind) : Type 0 where
  pub slot : has_slot c r ≡ true
  pub object : o ≡ joint_object c

pub record IsHandling (c : Connector) (r : Role) (o : ObjectKind) (a : Authority) : Type 0 where
  pub connector : c ≡ Interrupt
  pub role : r ≡ To
  pub object : o ≡ OfIrq
  pub authority : a ≡ Handle

pub record IsSignalling (c : Connector) (r : Role) (o : ObjectKind) (a : Authority) : Type 0 where
  pub connector : c ≡ Interrupt
  pub role : r ≡ From
  pub object : o ≡ OfNotification
  pub authority : a ≡ AsyncSend

pub given_by : (c : Connector) (r : Role) (o : ObjectKind) (a : Authority) → gives c r o a ≡ true
    → ((a ≡ Read) ⊎ (a ≡ Write)) ⊎ (OfSlot c r o ⊎ (IsHandling c r o a ⊎ IsSignalling c r o a))
given_by c r o a h = search (rules, implied, over_all, implies, or_cases, access_is, and_parts, has_slot, is_object, fits)

-- ---- who sees memory

-- over whose frames: the connection's, or the device's
pub record SeesShared (c : Connector) (o : ObjectKind) : Type 0 where
  pub connector : c ≡ SharedMemory
  pub object : o ≡ OfFrames

pub record SeesDevice (c : Connector) (r : Role) (o : ObjectKind) : Type 0 where
  pub connector : c ≡ Mmio
  pub role : r ≡ From
  pub object : o ≡ OfDevice

pub seen_by : (c : Connector) (r : Role) (o : ObjectKind) → gives c r o Read ≡ true → SeesShared c o ⊎ SeesDevice c r o
seen_by c r o h = search (rules, implied, over_object, implies, fits, or_cases, fitted)

-- it is the ends that have a window
pub window_sees : (c : Connector) (r : Role) → is_window c r ≡ true → ((c ≡ SharedMemory) × (gives c r OfFrames Read ≡ true))
    ⊎ ((c ≡ Mmio) × (r ≡ From) × (gives c r OfDevice Read ≡ true))
window_sees SharedMemory From h = inl (refl, refl)
window_sees SharedMemory To h = inl (refl, refl)
window_sees Mmio From h = inr (refl, refl, refl)
window_sees _ From h = absurd (true≢false (sym h))
window_sees _ To h = absurd (true≢false (sym h))

pub seen_window : (c : Connector) (r : Role) (o : ObjectKind) → gives c r o Read ≡ true → is_window c r ≡ true
seen_window c r o h =
    implied (gives c r o Read) (is_window c r) (over_object (λ c r o. implies (gives c r o Read) (is_window c r)) refl c r o) h

-- an end with a window is of software
pub window_soft : (c : Connector) (r : Role) → is_window c r ≡ true → (end_rule c r).hardware ≡ false
window_soft c r s = search (rules, truth_is, implied, at_end, implies)

-- the ends at devices
pub device_role : (c : Connector) (r : Role) → (end_rule c r).hardware ≡ true → ((c ≡ Interrupt) × (r ≡ From))
    ⊎ ((c ≡ Mmio) × (r ≡ To))
device_role Interrupt From h = inl (refl, refl)
device_role Mmio To h = inr (refl, refl)
device_role _ From h = absurd (true≢false (sym h))
device_role _ To h = absurd (true≢false (sym h))
