-- The tables of a domain, put together.
use Rattle.domain_table.proofs.Common.{DomainTables, List, Named, Row, ap, flat_map, root_name, rows_of_space, slot_line, tables_in, thread_line, window_line, ℕ, ◌∙◌, ◌≡◌}
use Rattle.system_spec.specs.declared.map_line.MapLine.{MapLine}

abbrev pub made : List Row → List Row → List Row → List Row → DomainTables
made s t w p = record { slots = s; threads = t; windows = w; pages = p }

pub tabled :
    (n : Named) (lines : List MapLine) (d : ℕ) (s t w p : List Row) → s ≡ flat_map (slot_line n d) lines
    → t ≡ flat_map (thread_line n d) lines
    → w ≡ flat_map (window_line n d) lines → p ≡ rows_of_space n.spec (root_name n.spec d) → made s t w p ≡ tables_in n lines d
tabled n lines d s t w p e f g h =
    ap (λ (x : List Row). made x t w p) e ∙ ap (λ (x : List Row). made (flat_map (slot_line n d) lines) x w p) f
    ∙ ap (λ (x : List Row). made (flat_map (slot_line n d) lines) (flat_map (thread_line n d) lines) x p) g
    ∙ ap (λ (x : List Row). made (flat_map (slot_line n d) lines) (flat_map (thread_line n d) lines)
    (flat_map (window_line n d) lines) x) h
