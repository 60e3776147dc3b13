-- Capabilities of slots fit the objects that they lead to.
use Rattle.spec_laws.proofs.Common.{Bool, CNodeOf, Cap, Connector, Domain, EndpointOf, FlatConnection, FlatEnd, From, Handler, Interrupt, IrqOf, IsFit, IsIn, IsThere, Kind, List, LockOf, NONE, Notification, NotificationOf, OfEnd}
use Rattle.spec_laws.proofs.Common.{OwnLock, RW, Rights, Role, Rpc, SlotUse, Some, Tables, To, What, [], and_from, ap, arith, badge_at, bits_from, cap, cond_both, end_in, end_of, end_rights, fits_as, from_gather, gather, inl}
use Rattle.spec_laws.proofs.Common.{inr, is_at, is_kind, joint, joint_by, keeps, keeps_slots, kind_of_object, kind_rights, kind_there, le-leb, least, leb, length, list_all, lt-ltb, nat_lt, object, option_and_then, option_map_or, place, refl}
use Rattle.spec_laws.proofs.Common.{rights_at, rise, rules, slice_get, slice_get_within, slots_at, spec_of, subst, suc, sym, true, use_cap, uses_at, zero, ℕ, ◌&&◌, ◌+◌, ◌<◌, ◌==◌, ◌^◌, ◌||◌, ◌∙◌, ◌∷◌, ◌≡◌, ◌≤◌, true≢false}
use Rattle.std.specs.Option.{option_map}
use Rattle.cap_model.specs.Kept.{fits, within}
use Rattle.cap_model.specs.Kinds.{has_badge}
use Rattle.cap_model.specs.declared.kind.Kind.TheVariants as kinds
use Rattle.system_spec.specs.Bits.{bits_for}
use Rattle.spec_laws.proofs.Uses.{IsEnd, IsUse, is_use}
use Rattle.spec_laws.proofs.Used.{has_slot}

-- ---- bits

high_bits : (n b m : ℕ) → bits_from n b m ≤ b + m
high_bits n b zero = omega arith
high_bits n b (suc m) = cond_both (nat_lt n (2 ^ b)) b (bits_from n (b + 1) m) (λ r. r ≤ b + suc m) (λ e. omega arith)
    (λ e. let l : bits_from n (b + 1) m ≤ (b + 1) + m = high_bits n (b + 1) m in omega arith)

bits_few : (n : ℕ) → bits_for n ≤ 16
unfolding bits_for
bits_few n = high_bits n 1 15

-- ---- slots

slots_rise : {A : Type 0} (g : ℕ → ℕ) (f : ℕ → SlotUse → A) (us : List SlotUse) → ((n : ℕ) → g n < g (suc n))
    → rise (gather (λ n u. (g n, f n u) ∷ []) us) ≡ true
slots_rise g f (u ∷ v ∷ us) h =
    and_from (nat_lt (g 0) (g 1)) _ (lt-ltb (g 0) (g 1) (h 0)) (slots_rise (λ n. g (suc n)) (λ n x. f (suc n) x) (v ∷ us)
    (λ n. h (suc n)))
slots_rise g f _ h = refl

pub all_pass : {A : Type 0} (test : A → Bool) (xs : List A) → ((x : A) → IsIn x xs → test x ≡ true) → list_all test xs ≡ true
all_pass test [] h = refl
all_pass test (x ∷ xs) h = and_from (test x) (list_all test xs) (h x (inl refl)) (all_pass test xs (λ y i. h y (inr i)))

-- ---- capabilities

-- the rights and the badge are those that the kind has
abbrev pub Suits : Kind → Rights → ℕ → Type 0
Suits kind r b = (within r (kind_rights kind) ≡ true) × (has_badge kind || b == 0 ≡ true)

pub is_at_of : (t : Tables) (w : What) (kind like : Kind) → IsThere t w → kind_of_object (object t w) ≡ kind
    → is_kind (Some kind) like ≡ true → is_at (spec_of t) like (place t w) ≡ true
is_at_of t w kind like h k same = ap (λ x. is_kind x like) (kind_there t w h ∙ ap (λ z. Some z) k) ∙ same

-- by the kind of the object
pub fits_of : (t : Tables) (w : What) (kind : Kind) (r : Rights) (b : ℕ) → IsThere t w → kind_of_object (object t w) ≡ kind
    → Suits kind r b → fits (spec_of t) (cap (place t w) r b) ≡ true
fits_of t w kind r b h k s = search (rules, kind_there, and_from)

-- also as a capability to an object of a kind
pub fits_as_of : (t : Tables) (w : What) (kind like : Kind) (r : Rights) (b : ℕ) → IsThere t w
    → kind_of_object (object t w) ≡ kind → is_kind (Some kind) like ≡ true → Suits kind r b
    → fits_as (spec_of t) like (cap (place t w) r b) ≡ true
fits_as_of t w kind like r b h k same s = search (rules, and_from, is_at_of, fits_of)

module _ (t : Tables) where
  abbrev Fits : What → Rights → ℕ → Type 0
  Fits w r b = fits (spec_of t) (cap (place t w) r b) ≡ true

  pub joint_is : (k : ℕ) (c : FlatConnection) → slice_get t.flat.connections k ≡ Some c → joint t k ≡ joint_by k c.connector
  joint_is k c h = ap (λ x. option_map_or (λ c. joint_by k c.connector) x (NotificationOf k)) h

  pub end_is : (k n : ℕ) (c : FlatConnection) (e : FlatEnd) → slice_get t.flat.connections k ≡ Some c
      → slice_get c.ends n ≡ Some e → end_of t.flat k n ≡ Some (c.connector, e)
  end_is k n c e h s = ap (λ x. option_and_then (end_in n) x) h ∙ ap (λ x. option_map (λ e. (c.connector, e)) x) s

  pub rights_are : (k n : ℕ) (c : FlatConnection) (e : FlatEnd) → slice_get t.flat.connections k ≡ Some c
      → slice_get c.ends n ≡ Some e → rights_at t k n ≡ end_rights c.connector e.role
  rights_are k n c e h s = ap (λ x. option_map_or (λ e. end_rights e.0 e.1.role) x NONE) (end_is k n c e h s)

  end_fits : (k n : ℕ) → IsEnd t.flat.connections k n → Fits (joint t k) (rights_at t k n) (badge_at t k n)
  end_fits k n i =
      subst (λ w. Fits w (rights_at t k n) (badge_at t k n)) (sym (joint_is k i.connection i.here))
      (subst (λ r. Fits (joint_by k i.connection.connector) r (badge_at t k n))
      (sym (rights_are k n i.connection i.end i.here i.stands)) (by_kind i.connection.connector i.end.role refl i.slot)) where
        by_kind : (x : Connector) (r : Role) → i.connection.connector ≡ x → has_slot x r ≡ true
            → Fits (joint_by k x) (end_rights x r) (badge_at t k n)
        by_kind Rpc From q s = fits_of t (EndpointOf k) kinds.Endpoint (end_rights Rpc From) (badge_at t k n) (
          i.connection,
          i.here,
          q,
        ) refl (refl, refl)
        by_kind Rpc To q s = fits_of t (EndpointOf k) kinds.Endpoint (end_rights Rpc To) (badge_at t k n)
            (i.connection, i.here, q)
            refl (refl, refl)
        by_kind Notification From q s = fits_of t (NotificationOf k) kinds.Notification (end_rights Notification From)
            (badge_at t k n) (i.connection, i.here, inl q) refl (refl, refl)
        by_kind Notification To q s = fits_of t (NotificationOf k) kinds.Notification (end_rights Notification To)
            (badge_at t k n)
            (i.connection, i.here, inl q) refl (refl, refl)
        by_kind Interrupt To q s = fits_of t (NotificationOf k) kinds.Notification (end_rights Interrupt To) (badge_at t k n)
            (i.connection, i.here, inr q) refl (refl, refl)
        by_kind _ _ q s = absurd (true≢false (sym s))

  module _ (fit : IsFit t) (d : ℕ) (x : Domain) (here : slice_get t.flat.domains d ≡ Some x) where
    use_fits : (n : ℕ) (u : SlotUse) → slice_get (uses_at t d) n ≡ Some u → fits (spec_of t) (use_cap t d n u) ≡ true
    use_fits n u s = by_use u s (is_use t fit.laid d x here n u s) where
      by_use : (u : SlotUse) → slice_get (uses_at t d) n ≡ Some u → IsUse t.flat.connections u
          → fits (spec_of t) (use_cap t d n u) ≡ true
      by_use (OfEnd k m) s i = end_fits k m i
      by_use (Handler k m) s i = fits_of t (IrqOf k) kinds.Irq NONE 0 i refl (refl, refl)
      by_use (OwnLock leaf m) s i = fits_of t (LockOf d n) kinds.Notification RW 0 ((x, here), (leaf, m, s)) refl (refl, refl)

    abbrev bits : ℕ
    bits = bits_for (length (uses_at t d))

    abbrev Slot : Type 0
    Slot = ℕ × Cap

    abbrev test : Slot → Bool
    test slot = nat_lt slot.0 (2 ^ bits) && fits (spec_of t) slot.1

    slot_fits : (slot : Slot) → IsIn slot (slots_at t d) → test slot ≡ true
    slot_fits slot i = search (rules, from_gather, least, slice_get_within, and_from, lt-ltb, use_fits)

    pub cnode_kept : keeps (spec_of t) (object t (CNodeOf d)) ≡ true
    cnode_kept =
        let slots = slots_at t d in
        let some = (least (length (uses_at t d)) (fit.domains d x here).slots).some in
        and_from (nat_lt 0 bits && leb bits 16) (keeps_slots (fits (spec_of t)) (2 ^ bits) slots)
        (and_from (nat_lt 0 bits) (leb bits 16) (lt-ltb 0 bits (omega (arith, some)))
        (le-leb bits 16 (bits_few (length (uses_at t d))))) (and_from (rise slots) (list_all test slots)
        (slots_rise (λ n. n + 1) (λ n u. use_cap t d n u) (uses_at t d) (λ n. omega arith)) (all_pass test slots slot_fits))
