-- What every spec keeps.
use Rattle.std.specs.Prelude.{◌≡◌, ◌<◌, ◌^◌, ◌+◌, ◌%◌, ◌==◌, ℕ, Bool, true, false, not, ◌&&◌, ◌||◌, nat_lt, leb, List, [], ◌∷◌, map, length, Option, Some, None}
use Rattle.std.specs.List.{list_all, list_any}
use Rattle.std.specs.Str.{bytes_eq}
use Rattle.cap_model.specs.declared.cap.Cap.{Cap}
use Rattle.cap_model.specs.declared.kind.Kind.{Kind}
use Rattle.cap_model.specs.declared.kind.Kind.TheVariants as kinds
use Rattle.cap_model.specs.declared.level.Level.{Level}
use Rattle.cap_model.specs.declared.object.Fill.{Fill}
use Rattle.cap_model.specs.declared.object.Object.{Object}
use Rattle.cap_model.specs.declared.object.Object.TheVariants.{Endpoint, Notification, CNode, Thread, Frame, Pages, Irq}
use Rattle.cap_model.specs.declared.object.Tcb.{Tcb}
use Rattle.cap_model.specs.declared.rights.Rights.{Rights}
use Rattle.cap_model.specs.declared.spec.Entry.{Entry}
use Rattle.cap_model.specs.declared.spec.Spec.{Spec}
use Rattle.cap_model.specs.Levels.{size, child}
use Rattle.cap_model.specs.Kinds.{kind_at, is_at, is_space_root, kind_rights, has_badge}

-- no two are equal: none is equal to one behind it
abbrev pub differ : {A : Type 0} → (A → A → Bool) → List A → Bool
differ same [] = true
differ same (x ∷ xs) = not (list_any (λ y. same y x) xs) && differ same xs

-- the numbers rise
abbrev pub rise : {A : Type 0} → List (ℕ × A) → Bool
rise [] = true
rise (x ∷ []) = true
rise (x ∷ y ∷ xs) = nat_lt x.0 y.0 && rise (y ∷ xs)

-- whether the test passes, where there is something
abbrev pub if_any : {A : Type 0} → (A → Bool) → Option A → Bool
if_any test None = true
if_any test (Some x) = test x

-- no right but those of `most`
abbrev pub within : Rights → Rights → Bool
within r most = ((not r.read || most.read) && (not r.write || most.write))
    && ((not r.grant || most.grant) && (not r.reply || most.reply))

-- rights and a badge only where the kind has them
abbrev pub fits_kind : Option Kind → Cap → Bool
fits_kind None cap = false
fits_kind (Some kind) cap = within cap.rights (kind_rights kind) && (has_badge kind || cap.badge == 0)

-- a capability to an object of the spec
abbrev pub fits : Spec → Cap → Bool
fits spec cap = fits_kind (kind_at spec cap.object) cap

-- a capability to an object of this kind
abbrev pub fits_as : Spec → Kind → Cap → Bool
fits_as spec kind cap = is_at spec kind cap.object && fits spec cap

-- the numbers rise and are below the size, and the capabilities fit
abbrev pub keeps_slots : (Cap → Bool) → ℕ → List (ℕ × Cap) → Bool
keeps_slots fit size slots = rise slots && list_all (λ slot. nat_lt slot.0 size && fit slot.1) slots

-- 1 to 16 bits, and a slot for each number of so many bits
abbrev pub keeps_cnode : Spec → ℕ → List (ℕ × Cap) → Bool
keeps_cnode spec bits slots = (nat_lt 0 bits && leb bits 16) && keeps_slots (fits spec) (2 ^ bits) slots

-- a page table of a level that the architecture has, over tables of the next level or frames
abbrev pub keeps_table : Spec → Level → Option ℕ → List (ℕ × Cap) → Bool
keeps_table spec level None slots = false
keeps_table spec level (Some n) slots = keeps_slots (fits_as spec (child level)) n slots

-- the root is a CNode, the space a space root, the IPC buffer a frame, and the priority at most 255
abbrev pub keeps_tcb : Spec → Tcb → Bool
keeps_tcb spec tcb = (leb tcb.prio 255 && if_any (is_at spec kinds.CNode) tcb.cspace)
    && (if_any (is_space_root spec) tcb.vspace && if_any (fits_as spec kinds.Frame) tcb.buffer)

-- some bytes, within the frame
abbrev pub keeps_fill : Fill → Bool
keeps_fill fill = nat_lt 0 fill.length && leb (fill.offset + fill.length) 4096

-- the address is one of a page
abbrev pub keeps_frame : Option ℕ → Option Fill → Bool
keeps_frame paddr fill = if_any (λ p. p % 4096 == 0) paddr && if_any keeps_fill fill

abbrev pub keeps : Spec → Object → Bool
keeps spec Endpoint = true
keeps spec Notification = true
keeps spec (CNode bits slots) = keeps_cnode spec bits slots
keeps spec (Thread tcb) = keeps_tcb spec tcb
keeps spec (Frame paddr fill) = keeps_frame paddr fill
keeps spec (Pages level slots) = keeps_table spec level (size spec.arch level) slots
keeps spec (Irq notification) = if_any (is_at spec kinds.Notification) notification

abbrev pub names_differ : List Entry → Bool
names_differ entries = differ bytes_eq (map (λ entry. entry.name) entries)

-- the lines rise by number, each to an interrupt object, and no two to one
abbrev pub keeps_lines : Spec → List (ℕ × ℕ) → Bool
keeps_lines spec lines = (rise lines && differ (λ a b. a == b) (map (λ line. line.1) lines))
    && list_all (λ line. is_at spec kinds.Irq line.1) lines

pub record IsKept (spec : Spec) : Type 0 where
  pub few : length spec.entries < 2 ^ 32
  pub names : names_differ spec.entries ≡ true
  pub objects : list_all (λ entry. keeps spec entry.object) spec.entries ≡ true
  pub lines : keeps_lines spec spec.irqs ≡ true
