-- The parts of which spaces are made, domain by domain.
use Rattle.std.specs.Prelude.{◌≡◌, ◌<◌, ℕ, ◌+◌, ◌*◌, ◌≤◌, ◌^◌, List, [], ◌∷◌, ◌++◌, length, map, sum, Some, slice_get, slice_index_or}
use Rattle.vspace_layout.specs.Below.{Domain, EndAt, Flat, Images, IsIn, Settled, System, all_ends, arch_of, before, gather, section_page_count, sections_end}
use Rattle.source_images.specs.Numbered.{AreApart}
use Rattle.vspace_layout.specs.declared.mapped.MappedPage.{MappedPage}
use Rattle.vspace_layout.specs.declared.outline.Outline.{Outline}
use Rattle.vspace_layout.specs.declared.region.Region.{Region}
use Rattle.vspace_layout.specs.declared.spaces.Page.{Page}
use Rattle.vspace_layout.specs.declared.spaces.Space.{Space}
use Rattle.vspace_layout.specs.declared.spaces.Spaces.{Spaces}
use Rattle.vspace_layout.specs.declared.spaces.ThreadPlace.{ThreadPlace}
use Rattle.vspace_layout.specs.declared.spaces.Window.{Window}
use Rattle.vspace_layout.specs.declared.thread.ThreadOf.{ThreadOf}
use Rattle.vspace_layout.specs.FrameNumbers.{AreAllNumbered, all_own, memory_firsts, own_added, pages_numbered}
use Rattle.vspace_layout.specs.Frames.{memory_part}
use Rattle.vspace_layout.specs.Given.{Given, wired_of}
use Rattle.vspace_layout.specs.MappedPages.{pages_from, region_part, section_part}
use Rattle.vspace_layout.specs.Regions.{domain_windows, pages_in, region_start, regions_in, stack_pages, window_pages}
use Rattle.vspace_layout.specs.Threads.{domain_threads}

abbrev pub outline : System → List ℕ → Outline
outline s leaves = record {
  threads = domain_threads s.flat (all_ends s) leaves;
  windows = domain_windows s.flat (all_ends s) leaves;
  regions = regions_in s.flat s.settled (domain_threads s.flat (all_ends s) leaves) (domain_windows s.flat (all_ends s) leaves);
}

-- of each domain
abbrev pub outlines : System → List Outline
outlines s = map (λ d. outline s d.leaves) s.flat.domains

abbrev pub no_outline : Outline
no_outline = record { threads = []; windows = []; regions = [] }

abbrev pub regions_at : System → List ℕ → List Region
regions_at s leaves = (outline s leaves).regions

-- where each region begins
abbrev pub starts_in : ℕ → List Region → List ℕ
starts_in base rs = gather (λ n r. region_start base rs n ∷ []) rs

-- the pages of a domain with these leaves and regions
abbrev pub mapped_of : Settled → Images → List ℕ → List Region → List MappedPage
mapped_of settled images leaves rs = section_part images leaves ++ region_part settled (sections_end (arch_of images.images)) rs

abbrev pub domain_mapped : Given → List ℕ → List MappedPage
domain_mapped t leaves = mapped_of t.settled t.images leaves (regions_at (wired_of t) leaves)

-- the pages of each domain
abbrev pub all_mapped : Given → List (List MappedPage)
all_mapped t = map (λ d. domain_mapped t d.leaves) t.flat.domains

-- the same, where the outline of each domain is given
abbrev pub mapped_by : Flat → Settled → Images → List Outline → List (List MappedPage)
mapped_by flat settled images os = gather (λ n d. mapped_of settled images d.leaves (slice_index_or os n no_outline).regions
    ∷ []) flat.domains

-- ---- how many there are

abbrev pub page_count_of : Images → List ℕ → List Region → ℕ
page_count_of images leaves rs = section_page_count images leaves + pages_in rs

abbrev pub domain_counted : Given → List ℕ → ℕ
domain_counted t leaves = page_count_of t.images leaves (regions_at (wired_of t) leaves)

abbrev pub all_counted : Given → ℕ
all_counted t = sum (map (λ d. domain_counted t d.leaves) t.flat.domains)

-- the same, where the outline of each domain is given: the pages of all sections and of all regions
abbrev pub counted_by : Flat → Images → List Outline → ℕ
counted_by flat images os = sum (map (λ d. section_page_count images d.leaves) flat.domains) + sum
    (map (λ o. pages_in o.regions) os)

-- regions and their pages are few enough for addresses of 64 bits
abbrev pub AreFew : List Region → Type 0
AreFew rs = length rs + pages_in rs ≤ 2 ^ 18

-- an outline for each domain, with few regions, which are those of its threads and windows
pub record AreOutlined (flat : Flat) (settled : Settled) (os : List Outline) : Type 0 where
  pub each : length os ≡ length flat.domains
  pub few : (o : Outline) → IsIn o os → AreFew o.regions
  pub regions : (o : Outline) → IsIn o os → o.regions ≡ regions_in flat settled o.threads o.windows

-- the sections of each domain are sound and apart
abbrev pub AreAllApart : Flat → Images → Type 0
AreAllApart flat images = (domain : Domain) → IsIn domain flat.domains → AreApart images domain.leaves

-- ---- addresses, by where regions begin

abbrev pub start_at : List ℕ → ℕ → ℕ
start_at starts n = slice_index_or starts n 0

-- the pages of region n
abbrev pub starting : Settled → List ℕ → ℕ → Region → List MappedPage
starting settled starts n r = pages_from settled (start_at starts n) r

abbrev pub RegionsFit : List ℕ → List Region → Type 0
RegionsFit starts rs = (n : ℕ) (r : Region) → slice_get rs n ≡ Some r → start_at starts n + 4096 * r.pages < 2 ^ 64

abbrev pub thread_at : Settled → List ℕ → ℕ → ThreadOf → ThreadPlace
thread_at settled starts i x =
    record {
      leaf = x.leaf;
      end = x.end;
      sp = start_at starts (2 * i) + 4096 * stack_pages settled x.leaf;
      buffer = start_at starts (2 * i + 1);
    }

abbrev pub thread_places : Settled → List ℕ → List ThreadOf → List ThreadPlace
thread_places settled starts ts = gather (λ i x. thread_at settled starts i x ∷ []) ts

abbrev pub StacksFit : Settled → List ℕ → List ThreadOf → Type 0
StacksFit settled starts ts = (i : ℕ) (x : ThreadOf) → slice_get ts i ≡ Some x
    → start_at starts (2 * i) + 4096 * stack_pages settled x.leaf < 2 ^ 64

abbrev pub window_place : Flat → Settled → List ℕ → ℕ → EndAt → Window
window_place flat settled starts n e = record { end = e; vaddr = start_at starts n; pages = window_pages flat settled e }

-- windows whose regions are those from number `first` on
abbrev pub window_places : Flat → Settled → List ℕ → ℕ → List EndAt → List Window
window_places flat settled starts first ws = gather (λ j e. window_place flat settled starts (first + j) e ∷ []) ws

-- ---- spaces, by their pages

abbrev pub space_in : Flat → Settled → ℕ → Outline → List Page → Space
space_in flat settled base o pages = record {
  pages = pages;
  threads = thread_places settled (starts_in base o.regions) o.threads;
  windows = window_places flat settled (starts_in base o.regions) (2 * length o.threads) o.windows;
}

abbrev pub pages_at : Flat → Settled → List (List MappedPage) → ℕ → List Page
pages_at flat settled mapped d = pages_numbered d (memory_firsts (all_own mapped) flat settled) (before own_added mapped d)
    (slice_index_or mapped d [])

abbrev pub space_at : Flat → Settled → ℕ → List (List MappedPage) → ℕ → Outline → Space
space_at flat settled base mapped d o = space_in flat settled base o (pages_at flat settled mapped d)

-- the spaces of all domains, where the outline of each is given, and its pages with their frames
abbrev pub spaces_with : Flat → Settled → ℕ → List Outline → List (List Page) → List Space
spaces_with flat settled base os all = gather (λ d o. space_in flat settled base o (slice_index_or all d []) ∷ []) os

-- the spaces of all domains, and all frames, where the outline and the pages of each domain are given
abbrev pub spaces_in : Flat → Settled → ℕ → List Outline → List (List MappedPage) → Spaces
spaces_in flat settled base os mapped = record {
  spaces = gather (λ d o. space_at flat settled base mapped d o ∷ []) os;
  frames = gather own_added mapped ++ memory_part flat settled;
}

-- pages are few, each of a connection's memory has a number, and so has what stands behind all own frames
pub record AreFit (flat : Flat) (settled : Settled) (mapped : List (List MappedPage)) : Type 0 where
  pub domains : length mapped ≡ length flat.domains
  pub count : length flat.domains < 2 ^ 32
  pub pages : sum (map length mapped) ≤ 65536
  pub numbers : AreAllNumbered (memory_firsts (all_own mapped) flat settled) mapped
  pub memory : all_own mapped + length (memory_part flat settled) < 2 ^ 64
