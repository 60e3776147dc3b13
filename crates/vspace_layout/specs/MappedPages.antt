-- The pages that are mapped in a domain's space, by address: those of its sections, which stand below the base, and then those
-- of its regions. Section pages may be written where the section may; stacks and buffers may be read and written; a window's
-- pages as far as its end's access allows. What a page is of decides its frame: an own frame, or a page of a connection's
-- memory.
use Rattle.std.specs.Prelude.{ℕ, ◌+◌, ◌*◌, Bool, true, false, List, ◌++◌, map, Option, None}
use Rattle.vspace_layout.specs.Below.{EndSetting, Images, Settled, gather, option_map_or, range_with_len, section_pages, setting_of}
use Rattle.source_images.specs.declared.pages.SectionPage.{SectionPage}
use Rattle.vspace_layout.specs.declared.mapped.MappedPage.{MappedPage}
use Rattle.vspace_layout.specs.declared.mapped.Shown.{Shown}
use Rattle.vspace_layout.specs.declared.mapped.Shown.TheVariants.{Own, Memory}
use Rattle.vspace_layout.specs.declared.region.Content.{Content}
use Rattle.vspace_layout.specs.declared.region.Content.TheVariants.{Stack, Buffer, Window}
use Rattle.vspace_layout.specs.declared.region.Region.{Region}
use Rattle.vspace_layout.specs.Given.{Given, base, leaves_of}
use Rattle.vspace_layout.specs.Regions.{region_start, regions}

abbrev pub mapped : ℕ → Bool → Bool → Shown → MappedPage
mapped at read write shown = record { at = at; read = read; write = write; shown = shown }

-- ---- of sections

abbrev pub section_page : SectionPage → MappedPage
section_page p = mapped p.vaddr true p.write (Own p.fill)

-- ---- of regions

abbrev pub may_read : Option EndSetting → Bool
may_read s = option_map_or (λ x. x.read) s false

abbrev pub may_write : Option EndSetting → Bool
may_write s = option_map_or (λ x. x.write) s false

abbrev pub window_page : Option EndSetting → ℕ → ℕ → ℕ → MappedPage
window_page s connection at j = mapped at (may_read s) (may_write s) (Memory connection j)

abbrev pub zero_page : ℕ → MappedPage
zero_page at = mapped at true true (Own None)

-- page j of a region, at its address
abbrev pub region_page : Settled → Content → ℕ → ℕ → MappedPage
region_page settled Stack at j = zero_page at
region_page settled Buffer at j = zero_page at
region_page settled (Window e) at j = window_page (setting_of settled e.connection e.end) e.connection at j

-- page j of a region that begins there, and all its pages
abbrev pub page_of : Settled → ℕ → Region → ℕ → MappedPage
page_of settled start r j = region_page settled r.content (start + 4096 * j) j

abbrev pub pages_from : Settled → ℕ → Region → List MappedPage
pages_from settled start r = map (page_of settled start r) (range_with_len 0 r.pages)

abbrev pub pages_of_region : Settled → ℕ → List Region → ℕ → Region → List MappedPage
pages_of_region settled base rs n r = pages_from settled (region_start base rs n) r

-- ---- all

abbrev pub section_part : Images → List ℕ → List MappedPage
section_part images leaves = map section_page (section_pages images leaves)

abbrev pub region_part : Settled → ℕ → List Region → List MappedPage
region_part settled base rs = gather (pages_of_region settled base rs) rs

abbrev pub mapped_pages : Given → ℕ → List MappedPage
mapped_pages t d = section_part t.images (leaves_of t.flat d) ++ region_part t.settled (base t) (regions t d)
