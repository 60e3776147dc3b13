-- Which specs can be written as a text and read back.
--
-- What every spec keeps; and names are no words that are left out, numbers have 64 bits, texts hold no quote and no line
-- feed, and the canonical text is within the limits.
use Rattle.std.specs.Prelude.{◌≡◌, ℕ, ◌≤◌, ◌+◌, ◌==◌, ◌^◌, nat_lt, Bool, true, false, not, ◌&&◌, List, map, length, Option, sum}
use Rattle.std.specs.List.{list_all}
use Rattle.std.specs.Option.{option_map_or}
use Rattle.cam_base.specs.Names.{is_name}
use Rattle.cap_model.specs.Canonical.{canonical}
use Rattle.cap_model.specs.Kept.{if_any, IsKept}
use Rattle.cap_model.specs.declared.cap.Cap.{Cap}
use Rattle.cap_model.specs.declared.object.Fill.{Fill}
use Rattle.cap_model.specs.declared.object.Object.{Object}
use Rattle.cap_model.specs.declared.object.Object.TheVariants.{Endpoint, Notification, CNode, Thread, Frame, Pages, Irq}
use Rattle.cap_model.specs.declared.object.Tcb.{Tcb}
use Rattle.cap_model.specs.declared.spec.Spec.{Spec}
use Rattle.capdl_text.specs.TokenFaults.{is_left_out_word}
use Rattle.capdl_text.specs.Limits.{most_objects, most_caps}
use Rattle.capdl_text.specs.Texts.{is_long}

abbrev pub is_word : List ℕ → Bool
is_word text = is_name text && not (is_left_out_word text)

-- 64 bits
abbrev pub is_number : ℕ → Bool
is_number n = nat_lt n (2 ^ 64)

-- no quote and no line feed
abbrev pub is_plain : List ℕ → Bool
is_plain text = list_all (λ b. not (b == 34) && not (b == 10)) text

abbrev pub are_slots : List (ℕ × Cap) → Bool
are_slots slots = list_all (λ s. is_number s.0 && is_number s.1.badge) slots

abbrev pub is_tcb : Tcb → Bool
is_tcb tcb = (is_number tcb.addr && is_number tcb.ip)
    && (is_number tcb.sp && (if_any is_plain tcb.elf && if_any (λ c. is_number c.badge) tcb.buffer))

abbrev pub is_fill : Fill → Bool
is_fill fill = is_plain fill.file && is_number fill.at

abbrev pub is_laid : Object → Bool
is_laid Endpoint = true
is_laid Notification = true
is_laid (CNode bits slots) = are_slots slots
is_laid (Thread tcb) = is_tcb tcb
is_laid (Frame paddr fill) = if_any is_number paddr && if_any is_fill fill
is_laid (Pages level slots) = are_slots slots
is_laid (Irq notification) = true

-- the capabilities of an object
abbrev pub some : {A : Type 0} → Option A → ℕ
some o = option_map_or (λ x. 1) o 0

abbrev pub caps_of : Object → ℕ
caps_of Endpoint = 0
caps_of Notification = 0
caps_of (CNode bits slots) = length slots
caps_of (Thread tcb) = some tcb.cspace + some tcb.vspace + some tcb.buffer
caps_of (Frame paddr fill) = 0
caps_of (Pages level slots) = length slots
caps_of (Irq notification) = some notification

pub record IsWritable (spec : Spec) : Type 0 where
  pub kept : IsKept spec
  pub names : list_all (λ e. is_word e.name) spec.entries ≡ true
  pub objects : list_all (λ e. is_laid e.object) spec.entries ≡ true
  pub lines : list_all (λ l. is_number l.0) spec.irqs ≡ true
  pub short : is_long (canonical spec) ≡ false
  pub few_objects : length spec.entries ≤ most_objects
  pub few_caps : sum (map (λ e. caps_of e.object) spec.entries) ≤ most_caps
