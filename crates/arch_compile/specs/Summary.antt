-- What a compiled system has, in numbers, and the line that says them:
--
--   compiled D domains T threads K connections O objects C capabilities E edges
--
-- Capabilities are those in CNodes and page tables, those of threads (the root, the space and the IPC buffer), and those of
-- interrupts to their notifications. They are counted up to the greatest number of 64 bits.
use Rattle.std.specs.Prelude.{ℕ, ◌+◌, ◌-◌, ◌^◌, Bool, true, false, List, [], ◌∷◌, length, min, Option, codes, decimal}
use Rattle.arch_compile.specs.Below.{Edge, Entry, Flat, Spec, option_map_or}
use Rattle.std.specs.List.{count_by, sum_by}
use Rattle.arch_compile.specs.declared.summary.Summary.{Summary}
use Rattle.cam_base.specs.Texts.{together}
use Rattle.cap_model.specs.declared.object.Object.{Object}
use Rattle.cap_model.specs.declared.object.Object.TheVariants.{Endpoint, Notification, CNode, Thread, Frame, Pages, Irq}
use Rattle.cap_model.specs.declared.object.Tcb.{Tcb}

abbrev pub is_thread : Object → Bool
is_thread (Thread tcb) = true
is_thread Endpoint = false
is_thread Notification = false
is_thread (CNode bits slots) = false
is_thread (Frame paddr fill) = false
is_thread (Pages level slots) = false
is_thread (Irq notification) = false

abbrev pub one_if : {A : Type 0} → Option A → ℕ
one_if o = option_map_or (λ x. 1) o 0

abbrev pub tcb_caps : Tcb → ℕ
tcb_caps tcb = one_if tcb.cspace + one_if tcb.vspace + one_if tcb.buffer

-- how many capabilities an object has
abbrev pub caps_in : Object → ℕ
caps_in (CNode bits slots) = length slots
caps_in (Pages level slots) = length slots
caps_in (Thread tcb) = tcb_caps tcb
caps_in (Irq notification) = one_if notification
caps_in Endpoint = 0
caps_in Notification = 0
caps_in (Frame paddr fill) = 0

abbrev pub thread_count : List Entry → ℕ
thread_count entries = count_by (λ entry. is_thread entry.object) entries

abbrev pub cap_count : List Entry → ℕ
cap_count entries = sum_by (λ entry. caps_in entry.object) entries

abbrev pub capped : ℕ → ℕ
capped n = min n (2 ^ 64 - 1)

abbrev pub summary_of : Flat → Spec → List Edge → Summary
summary_of flat spec edges = record {
  domains = length flat.domains;
  threads = thread_count spec.entries;
  connections = length flat.connections;
  objects = length spec.entries;
  capabilities = capped (cap_count spec.entries);
  edges = length edges;
}

abbrev pub summary_line : Summary → List ℕ
summary_line s = together (
    codes "compiled " ∷ decimal s.domains ∷ codes " domains " ∷ decimal s.threads ∷ codes " threads "
    ∷ decimal s.connections ∷ codes " connections " ∷ decimal s.objects ∷ codes " objects "
    ∷ decimal s.capabilities ∷ codes " capabilities " ∷ decimal s.edges ∷ codes " edges\n" ∷ []
    )
