-- The limits on pages: all domains together have at most 65,536 mapped pages and 65,536 page tables, roots counted. Their
-- faults stand at the keyword of the assembly, and their names say which limit is passed. Both stand at one place, so that
-- of pages is told where both are passed. They come behind the limits on slots.
use Rattle.std.specs.Prelude.{ℕ, nat_lt, if◌then◌else◌, List, [], ◌∷◌, ◌++◌, map, length, sum, codes, Option, None}
use Rattle.vspace_layout.specs.Below.{Arch, Source, flat_map, gather}
use Rattle.adl_ast.specs.declared.composition.Assembly.{Assembly}
use Rattle.adl_meaning.specs.declared.item_at.ItemAt.{ItemAt}
use Rattle.adl_meaning.specs.Faults.{least}
use Rattle.adl_meaning.specs.Items.{assemblies}
use Rattle.adl_meaning.specs.SizeFaults.{limit_passed}
use Rattle.cam_base.specs.declared.place.Fault.{Fault}
use Rattle.page_tables.specs.Counts.{table_count}
use Rattle.page_tables.specs.Shapes.{shapes}
use Rattle.vspace_layout.specs.Given.{Given, arch}
use Rattle.vspace_layout.specs.MappedPages.{mapped_pages}
use Rattle.cspace_layout.specs.Limit.{limit_fault}
use Rattle.vspace_layout.specs.declared.mapped.MappedPage.{MappedPage}

-- the mapped pages of each domain
abbrev pub page_counts : Given → List ℕ
page_counts t = gather (λ d domain. length (mapped_pages t d) ∷ []) t.flat.domains

abbrev pub tables_needed : Given → ℕ → ℕ
tables_needed t d = table_count (shapes (arch t)) (map (λ p. p.at) (mapped_pages t d))

-- the page tables of each domain
abbrev pub table_counts : Given → List ℕ
table_counts t = gather (λ d domain. tables_needed t d ∷ []) t.flat.domains

abbrev pub limits_passed : ℕ → ℕ → ItemAt × Assembly → List Fault
limits_passed pages tables a = limit_passed a (codes "pages") 65536 pages ++ limit_passed a (codes "tables") 65536 tables

abbrev pub page_faults : Given → List Fault
page_faults t = flat_map (limits_passed (sum (page_counts t)) (sum (table_counts t))) (assemblies t.source)

abbrev pub first_page_limit : Given → Option Fault
first_page_limit t = least (page_faults t)

-- ---- as they are looked for

-- the page tables of a space with these pages
abbrev pub tables_of : Arch → List MappedPage → ℕ
tables_of a pages = table_count (shapes a) (map (λ p. p.at) pages)

-- the fault of the limit of that name, where so many pass it
abbrev pub limit_over : Source → ℕ → List ℕ → Option Fault
limit_over source count name = if nat_lt 65536 count then limit_fault source name else None
