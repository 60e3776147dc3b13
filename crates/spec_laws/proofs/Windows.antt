-- The ends that see memory, and the pages of a space that show it.
use Rattle.spec_laws.proofs.Common.{EndAt, FlatConnection, FlatEnd, Given, IsIn, List, MappedPage, Memory, None, Option, Own, Region, Shown, Some, [], ap, base, ends, false, flat_map, from_flat_map, from_gather, from_map}
use Rattle.spec_laws.proofs.Common.{from_range, in_append, in_place, inl, inr, is_window, leaves_of, map, mapped_pages, memory_pages, option_map_or, page_of, pages_of_region, range_with_len, refl, region_part, regions}
use Rattle.spec_laws.proofs.Common.{rules, section_page, section_pages, section_part, sees_memory, slice_get, subst, thread_regions, threads_of, true, window_pages, window_region, windows_of, ℕ, ⊎_elim, ◌<◌, ◌∷◌, ◌≡◌}
use Rattle.vspace_layout.specs.declared.thread.ThreadOf.{ThreadOf}
use Rattle.spec_laws.proofs.Lists.{shown_if}

-- an end that sees memory is one of a connection, and has a window there
pub record IsSeen (g : Given) (e : EndAt) : Type 0 where
  pub connection : FlatConnection
  pub there : slice_get g.flat.connections e.connection ≡ Some connection
  pub end : FlatEnd
  pub joined : slice_get connection.ends e.end ≡ Some end
  pub window : is_window connection.connector end.role ≡ true

sees : (g : Given) (e : EndAt) → sees_memory g.flat e ≡ true → IsSeen g e
sees g e s = search (rules)

pub seen : (g : Given) (d : ℕ) (e : EndAt) → IsIn e (windows_of g d) → IsSeen g e
seen g d e i = search (rules, from_flat_map, shown_if, sees)

-- its pages are those of the connection's memory
pub seen_pages : (g : Given) (e : EndAt) (s : IsSeen g e) → window_pages g.flat g.settled e ≡ memory_pages g.settled
    e.connection s.connection
seen_pages g e s = ap (λ o. option_map_or (memory_pages g.settled e.connection) o 0) s.there

-- ---- what pages show

-- an own frame, or a page of a window of the domain
abbrev pub ShowsHere : Given → ℕ → Shown → Type 0
ShowsHere g d (Own fill) = Unit {0}
ShowsHere g d (Memory k j) = (e : EndAt) × IsIn e (windows_of g d) × (e.connection ≡ k) × (j < window_pages g.flat g.settled e)

abbrev PagesShow : Given → ℕ → Region → Type 0
PagesShow g d r = (start j : ℕ) → j < r.pages → ShowsHere g d (page_of g.settled start r j).shown

threads_show : (g : Given) (d : ℕ) (ts : List ThreadOf) (r : Region) → IsIn r (flat_map (thread_regions g.settled) ts)
    → PagesShow g d r
threads_show g d [] r i = absurd i
threads_show g d (t ∷ ts) r (inl e) = subst (PagesShow g d) e (λ start j l. tt)
threads_show g d (t ∷ ts) r (inr (inl e)) = subst (PagesShow g d) e (λ start j l. tt)
threads_show g d (t ∷ ts) r (inr (inr i)) = threads_show g d ts r i

regions_show : (g : Given) (d : ℕ) (r : Region) → IsIn r (regions g d) → PagesShow g d r
regions_show g d r i =
    ⊎_elim (threads_show g d (threads_of g d) r) (λ j. let w = from_map (window_region g.flat g.settled) r (windows_of g d) j in
    subst (PagesShow g d) w.2 (λ start n l. (w.0, w.1, refl, l)))
    (in_append r (flat_map (thread_regions g.settled) (threads_of g d)) (map (window_region g.flat g.settled) (windows_of g d)) i)

pub pages_show : (g : Given) (d : ℕ) (p : MappedPage) → IsIn p (mapped_pages g d) → ShowsHere g d p.shown
pages_show g d p i =
    ⊎_elim (λ j. let s = from_map section_page p (section_pages g.images (leaves_of g.flat d)) j in
    subst (λ (z : MappedPage). ShowsHere g d z.shown) s.2 tt) (λ j. let k = from_gather
    (pages_of_region g.settled (base g) (regions g d)) p (regions g d) j in
    by_page k.1 (in_place k.1 (regions g d) k.0 k.2) _ k.3) (in_append p (section_part g.images (leaves_of g.flat d))
    (region_part g.settled (base g) (regions g d)) i) where
      by_page : (r : Region) → IsIn r (regions g d) → (start : ℕ)
          → IsIn p (map (page_of g.settled start r) (range_with_len 0 r.pages)) → ShowsHere g d p.shown
      by_page r is start i = search (rules, from_map, from_range, regions_show)
