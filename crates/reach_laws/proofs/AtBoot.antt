-- What a label may do at boot that isn't Control, Read, Write or a signal of its interrupt, it holds in a CNode.
use Rattle.reach_laws.proofs.Common.{AsyncSend, Auth, Authority, Bool, Cap, Contains, Control, Entry, Held, Kind, List, None, Object, Option, Read, Rights, Some, Spec, Structural, Write, and_parts, ap, arith, boot, buffer_of, confers, contains_at}
use Rattle.reach_laws.proofs.Common.{entry_object, false, get_or_from_slice_get, inl, inr, irq_at, is_kind, is_space_root, kind_confers, label_of, list_all, nat_lt, none_saved, nothing_pending, object_at, of_buffer, of_irq, of_mapped}
use Rattle.reach_laws.proofs.Common.{of_reply, of_root, of_saved, of_space, of_table, option_confers, refl, rules, same_kind, slice_get, slice_get_within, subst, sym, table_of, true, true≢false, ℕ, ◌&&◌, ◌∙◌, ◌≡◌, ◌≢◌, ◌⊎◌}
use Rattle.std.proofs.lemmas.List.Sums.{AllPass-from_list_all}
use Rattle.cap_model.specs.Kept.{IsKept, fits_as, if_any, keeps, keeps_table, rise}
use Rattle.cap_model.specs.Levels.{child, size}
use Rattle.cap_model.specs.declared.kind.Kind.TheVariants as kinds
use Rattle.cap_model.specs.declared.level.Level.{Level}
use Rattle.cap_model.specs.declared.level.Level.TheVariants.{Directory, Table}
use Rattle.cap_model.specs.declared.object.Object.TheVariants as objects

-- ---- what memory confers

abbrev is_of_memory : Authority → Bool
is_of_memory Read = true
is_of_memory Write = true
is_of_memory Control = true
is_of_memory _ = false

abbrev is_memory : Kind → Bool
is_memory kinds.Frame = true
is_memory (kinds.Pages level) = true
is_memory _ = false

by_memory : (k : Kind) (r : Rights) (a : Authority) → is_memory k ≡ true → kind_confers k r a ≡ true → is_of_memory a ≡ true
by_memory k r Read m h = refl
by_memory k r Write m h = refl
by_memory k r Control m h = refl
by_memory kinds.Frame r _ m h = absurd cc
by_memory _ r _ m h = absurd cc

-- the kinds that a page table names, and a frame
same_memory : (k : Kind) (level : Level) → same_kind k (child level) ≡ true → is_memory k ≡ true
same_memory kinds.Frame level h = refl
same_memory (kinds.Pages l) level h = refl
same_memory _ Directory h = absurd cc
same_memory _ _ h = absurd cc

-- a capability to an object of such a kind
option_memory : (o : Option Kind) (r : Rights) (level : Level) (a : Authority) → is_kind o (child level) ≡ true
    → option_confers o r a ≡ true → is_of_memory a ≡ true
option_memory None r level a h c = absurd (true≢false (sym h))
option_memory (Some k) r level a h c = by_memory k r a (same_memory k level h) c

module _ (spec : Spec) (labels : List ℕ) (kept : IsKept spec) where
  object_kept : (o : ℕ) (object : Object) → object_at spec o ≡ Some object → keeps spec object ≡ true
  object_kept o object h = go (slice_get spec.entries o) refl where
    go : (e : Option Entry) → slice_get spec.entries o ≡ e → keeps spec object ≡ true
    go None there = absurd (let w : entry_object None ≡ Some object = subst (λ z. entry_object z ≡ Some object) there h in cc)
    go (Some entry) there =
        let w : entry_object (Some entry) ≡ Some object = subst (λ z. entry_object z ≡ Some object) there h in
        let same : entry.object ≡ object = cc in
        subst (λ (x : Object). keeps spec x ≡ true) same
        (subst (λ (e : Entry). keeps spec e.object ≡ true) (get_or_from_slice_get spec.entries o entry entry there)
        (AllPass-from_list_all (λ (e : Entry). keeps spec e.object) spec.entries kept.objects o entry
        (slice_get_within spec.entries o entry there)))

  cap_memory : (cap : Cap) (level : Level) (a : Authority) → fits_as spec (child level) cap ≡ true → confers spec cap a ≡ true
      → is_of_memory a ≡ true
  cap_memory cap level a h c = search (rules, option_memory, and_parts)

  -- IPC buffers are frames
  buffer_memory : (o : Option Object) (t : ℕ) (cap : Cap) (a : Authority) → object_at spec t ≡ o → buffer_of o ≡ Some cap
      → confers spec cap a ≡ true → is_of_memory a ≡ true
  buffer_memory (Some (objects.Thread tcb)) t cap a there is c =
      let k = object_kept t (objects.Thread tcb) there in
      let parts = and_parts _ (if_any (is_space_root spec) tcb.vspace && if_any (fits_as spec kinds.Frame) tcb.buffer) k in
      let buffer : if_any (fits_as spec kinds.Frame) tcb.buffer ≡ true =
      (and_parts (if_any (is_space_root spec) tcb.vspace) (if_any (fits_as spec kinds.Frame) tcb.buffer) parts.1).1 in
      let frame : fits_as spec kinds.Frame cap ≡ true = subst (λ z. if_any (fits_as spec kinds.Frame) z ≡ true) is buffer in
      cap_memory cap Table a frame c
  buffer_memory _ t cap a there is c = absurd cc

  -- page tables name page tables and frames
  slot_memory : (level : Level) (slots : List (ℕ × Cap)) (n : Option ℕ) (i : ℕ) (cap : Cap) (a : Authority)
      → keeps_table spec level n slots ≡ true → Contains slots (i, cap) → confers spec cap a ≡ true → is_of_memory a ≡ true
  slot_memory level slots None i cap a k there c = absurd (true≢false (sym k))
  slot_memory level slots (Some n) i cap a k there c =
      let all =
      (and_parts (rise slots) (list_all (λ (slot : ℕ × Cap). nat_lt slot.0 n && fits_as spec (child level) slot.1)
      slots) k).1 in
      let at = contains_at slots (i, cap) there in
      let each : nat_lt i n && fits_as spec (child level) cap ≡ true =
      subst (λ (x : ℕ × Cap). nat_lt x.0 n && fits_as spec (child level) x.1 ≡ true) (get_or_from_slice_get slots at.0 (i, cap)
      (i, cap) at.1)
      (AllPass-from_list_all (λ (slot : ℕ × Cap). nat_lt slot.0 n && fits_as spec (child level) slot.1) slots all at.0 (i, cap)
      (slice_get_within slots at.0 (i, cap) at.1)) in
      cap_memory cap level a (and_parts (nat_lt i n) (fits_as spec (child level) cap) each).1 c

  table_memory : (o : Option Object) (p i : ℕ) (cap : Cap) (a : Authority) → object_at spec p ≡ o → Contains (table_of o) (i, cap)
      → confers spec cap a ≡ true → is_of_memory a ≡ true
  table_memory (Some (objects.Pages level slots)) p i cap a there is c = slot_memory level slots (size spec.arch level) i cap a
      (object_kept p (objects.Pages level slots) there) is c
  table_memory _ p i cap a there is c = absurd (let w = is.1 in omega arith)

  -- an interrupt that signals, of this label
  pub record Signals (l : ℕ) : Type 0 where
    pub irq : ℕ
    pub notification : ℕ
    pub bound : irq_at (boot spec) irq ≡ Some notification
    pub is : l ≡ label_of labels irq

  -- the structural edges at boot
  structural_kinds : (l : ℕ) (a : Authority) (m : ℕ) → Structural spec labels (boot spec) l a m
      → (is_of_memory a ≡ true) ⊎ ((a ≡ AsyncSend) × Signals l)
  structural_kinds l a m (of_buffer (t, cap, there, c, from, to)) = inl (buffer_memory (object_at spec t) t cap a refl there c)
  structural_kinds l a m (of_table (p, i, cap, there, c, from, to)) = inl (table_memory (object_at spec p) p i cap a refl there c)
  structural_kinds l a m (of_root (t, d, there, is, from, to)) = inl (ap is_of_memory is)
  structural_kinds l a m (of_space (t, d, there, is, from, to)) = inl (ap is_of_memory is)
  structural_kinds l a m (of_reply (t, reply, there, is, from, to)) = absurd (let none = nothing_pending spec t in cc)
  structural_kinds l a m (of_saved (c, i, reply, there, is, from, to)) = absurd (none_saved spec c i reply there)
  structural_kinds l a m (of_mapped (x, there, c, from, to)) = absurd (let w = there.1 in omega arith)
  structural_kinds l a m (of_irq (d, n, there, is, from, to)) =
      inr (is, record { irq = d; notification = n; bound = there; is = from })

  -- what isn't of memory and no signal is held
  pub held : (l : ℕ) (a : Authority) (m : ℕ) → is_of_memory a ≡ false → a ≢ AsyncSend → Auth spec labels (boot spec) l a m
      → Held spec labels (boot spec) l a m
  held l a m no_memory no_signal (inl h) = h
  held l a m no_memory no_signal (inr s) = elim (structural_kinds l a m s) [
    | inl memory ↦ absurd (true≢false (sym memory ∙ no_memory))
    | inr signal ↦ absurd (no_signal signal.0)
  ]

  -- and so is a signal of a label that is no interrupt's
  pub held_signal : (l m : ℕ) → (Signals l → ⊥) → Auth spec labels (boot spec) l AsyncSend m
      → Held spec labels (boot spec) l AsyncSend m
  held_signal l m none (inl h) = h
  held_signal l m none (inr s) = elim (structural_kinds l AsyncSend m s) [
    | inl memory ↦ absurd (true≢false (sym memory))
    | inr signal ↦ absurd (none signal.1)
  ]
