-- The map: where the parts of the source are found in the spec. Its lines are made from the same lists, and name the same
-- places, as the spec:
--
--   each domain, with its CNode and its space root
--   each thread, in order
--   each slot, by domain: of an end with its connection, or a lock of a leaf's own
--   each window, by domain and address
use Rattle.std.specs.Prelude.{ℕ, ◌+◌, ◌*◌, List, [], ◌∷◌, ◌++◌}
use Rattle.system_spec.specs.Below.{Handler, OfEnd, OwnLock, SlotUse, ThreadPlace, Window, gather}
use Rattle.system_spec.specs.declared.map_line.MapLine.{MapLine}
use Rattle.system_spec.specs.declared.map_line.MapLine.TheVariants.{DomainLine, ThreadLine, SlotLine, OwnLine, WindowLine}
use Rattle.system_spec.specs.declared.part.What.TheVariants.{ThreadOf}
use Rattle.system_spec.specs.Objects.{use_cap}
use Rattle.system_spec.specs.Parts.{place}
use Rattle.system_spec.specs.Tables.{Tables, threads_at, uses_at, windows_at}

abbrev pub domain_lines : Tables → List MapLine
domain_lines t = gather (λ d x. DomainLine d ∷ []) t.flat.domains

abbrev pub thread_line : Tables → ℕ → ℕ → ThreadPlace → MapLine
thread_line t d i x = ThreadLine (place t (ThreadOf d i)) x.leaf x.end

abbrev pub domain_threads : Tables → ℕ → List MapLine
domain_threads t d = gather (λ i x. thread_line t d i x ∷ []) (threads_at t d)

-- of threads of which the first stands at this place
abbrev pub thread_lines_from : ℕ → List ThreadPlace → List MapLine
thread_lines_from first threads = gather (λ i x. ThreadLine (first + i) x.leaf x.end ∷ []) threads

abbrev pub thread_lines : Tables → List MapLine
thread_lines t = gather (λ d x. domain_threads t d) t.flat.domains

-- of use n of a domain, which stands in slot n + 1
abbrev pub slot_line : ℕ → ℕ → SlotUse → MapLine
slot_line object n (OfEnd k m) = SlotLine k m (n + 1) object
slot_line object n (Handler k m) = SlotLine k m (n + 1) object
slot_line object n (OwnLock leaf m) = OwnLine leaf m (n + 1) object

abbrev pub domain_slots : Tables → ℕ → List MapLine
domain_slots t d = gather (λ n u. slot_line (use_cap t d n u).object n u ∷ []) (uses_at t d)

abbrev pub slot_lines : Tables → List MapLine
slot_lines t = gather (λ d x. domain_slots t d) t.flat.domains

abbrev pub window_line : Window → MapLine
window_line w = WindowLine w.end.connection w.end.end w.vaddr (4096 * w.pages)

abbrev pub domain_windows : Tables → ℕ → List MapLine
domain_windows t d = gather (λ j w. window_line w ∷ []) (windows_at t d)

abbrev pub window_lines : Tables → List MapLine
window_lines t = gather (λ d x. domain_windows t d) t.flat.domains

abbrev pub map_lines : Tables → List MapLine
map_lines t = domain_lines t ++ (thread_lines t ++ (slot_lines t ++ window_lines t))
