-- What is laid out within the limits is sized.
use Rattle.spec_laws.proofs.Common.{Domain, Flat, Given, Images, IsIn, IsLimited, IsSized, List, MappedPage, Page, Settled, SlotPlan, Some, Source, Space, Tables, [], all_tables, ap, arch, arith, counts, domain_uses, flat_map, gather}
use Rattle.spec_laws.proofs.Common.{gather_ones, get_ones, given, inl, inr, length, length-region_part, length_append, map, map_ones, mapped_pages, option_map_or, page, page_counts, pages_append, pages_at, pages_in, plan_of, refl}
use Rattle.spec_laws.proofs.Common.{shapes, slice_get, slots_of, space, stack_pages, sum, sym, table_count, table_counts, tables_at, tables_counted, tables_from, tables_needed, thread_count, thread_place}
use Rattle.spec_laws.proofs.Common.{rules, thread_regions, threads_at, threads_of, use_count, uses_at, ℕ, ◌*◌, ◌∙◌, ◌∷◌, ◌≡◌, ◌≤◌}
use Rattle.vspace_layout.specs.declared.thread.ThreadOf.{ThreadOf}
use Rattle.spec_laws.specs.Sized.{page_count}
use Rattle.spec_laws.proofs.Few.{all_tables_are}
use Rattle.spec_laws.proofs.Seen.{frames_few}
use Rattle.spec_laws.proofs.Totals.{sum_map, sum_ones, total_map, totals_flat, totals_most, totals_same, totals_times}
use Rattle.spec_laws.proofs.Uses.{uses_are}

-- ---- stacks

two_each : (settled : Settled) (ts : List ThreadOf) → ((x : ThreadOf) → IsIn x ts → 1 ≤ stack_pages settled x.leaf)
    → 2 * length ts ≤ pages_in (flat_map (thread_regions settled) ts)
two_each settled [] h = omega arith
two_each settled (x ∷ ts) h =
    let ih = two_each settled ts (λ y i. h y (inr i)) in
    omega (arith, ih, h x (inl refl), pages_append (thread_regions settled x) (flat_map (thread_regions settled) ts))

module _ (source : Source) (flat : Flat) (settled : Settled) (images : Images) where
  abbrev g : Given
  g = given source flat settled images

  abbrev t : Tables
  t = tables_from source flat settled images

  space_is : (d : ℕ) (x : Domain) → slice_get flat.domains d ≡ Some x → slice_get t.spaces.spaces d ≡ Some (space g d x)
  space_is d x e = get_ones (space g) flat.domains d x e

  pages_are : (d : ℕ) (x : Domain) → slice_get flat.domains d ≡ Some x
      → pages_at t d ≡ gather (λ n p. page g d n p ∷ []) (mapped_pages g d)
  pages_are d x e = ap (λ o. option_map_or (λ (s : Space). s.pages) o []) (space_is d x e)

  pages_same : (d : ℕ) (x : Domain) → slice_get flat.domains d ≡ Some x → length (pages_at t d) ≡ length (mapped_pages g d)
  pages_same d x e = ap (λ (z : List Page). length z) (pages_are d x e) ∙ gather_ones (page g d) (mapped_pages g d)

  threads_same : (d : ℕ) (x : Domain) → slice_get flat.domains d ≡ Some x → length (threads_at t d) ≡ length (threads_of g d)
  threads_same d x e = ap (λ o. length (option_map_or (λ (s : Space). s.threads) o [])) (space_is d x e)
      ∙ gather_ones (thread_place g d) (threads_of g d)

  page_sum : page_count t ≡ sum (page_counts g)
  page_sum =
      sum_ones (λ d (x : Domain). length (pages_at t d)) flat.domains
      ∙ totals_same (λ d (x : Domain). length (pages_at t d)) (λ d x. length (mapped_pages g d)) flat.domains pages_same
      ∙ sym (sum_ones (λ d (x : Domain). length (mapped_pages g d)) flat.domains)

  table_sum : length (all_tables t) ≡ sum (table_counts g)
  table_sum =
      sym (all_tables_are t) ∙ totals_same (λ d (x : Domain). length (tables_at t 0 0 d)) (λ d x. tables_needed g d) flat.domains
      (λ d x e. tables_counted t 0 0 d ∙ ap (λ z. table_count (shapes (arch t)) z) (addresses d x e))
      ∙ sym (sum_ones (λ d (x : Domain). tables_needed g d) flat.domains) where
        addresses : (d : ℕ) (x : Domain) → slice_get flat.domains d ≡ Some x → map (λ (p : Page). p.vaddr) (pages_at t d) ≡ map
            (λ (p : MappedPage). p.at) (mapped_pages g d)
        addresses d x e = ap (λ z. map (λ (p : Page). p.vaddr) z) (pages_are d x e) ∙ map_ones (λ (p : Page). p.vaddr) (page g d)
            (λ (p : MappedPage). p.at) (λ j p. refl) (mapped_pages g d)

  use_sum : use_count t ≡ sum (counts (slots_of source flat))
  use_sum =
      sum_ones (λ d (x : Domain). length (uses_at t d)) flat.domains ∙ totals_same (λ d (x : Domain). length (uses_at t d))
      (λ d x. length (domain_uses source flat x.leaves)) flat.domains (λ d x e. ap (λ z. length z) (uses_are t refl d x e))
      ∙ totals_flat (λ (x : Domain). length (domain_uses source flat x.leaves)) flat.domains
      ∙ sym (sum_map (λ (p : SlotPlan). length p.uses) (map (λ (x : Domain). plan_of (domain_uses source flat x.leaves))
      flat.domains) ∙ total_map (λ (p : SlotPlan). length p.uses) (λ (x : Domain). plan_of (domain_uses source flat x.leaves))
      flat.domains)

  -- a thread has two pages at least
  threads_few : ((d : ℕ) (x : ThreadOf) → IsIn x (threads_of g d) → 1 ≤ stack_pages settled x.leaf)
      → 2 * thread_count t ≤ sum (page_counts g)
  threads_few stacks =
      omega (
        arith,
        (sum_ones (λ d (x : Domain). length (threads_at t d)) flat.domains),
        (totals_times 2 (λ d (x : Domain). length (threads_at t d)) flat.domains),
        totals_most (λ d (x : Domain). 2 * length (threads_at t d)) (λ d x. length (mapped_pages g d))
            flat.domains domain,
        sum_ones (λ d (x : Domain). length (mapped_pages g d)) flat.domains,
      ) where
        domain : (d : ℕ) (x : Domain) → slice_get flat.domains d ≡ Some x
            → 2 * length (threads_at t d) ≤ length (mapped_pages g d)
        domain d x e = grind (arith, threads_same, two_each, pages_append, length_append, length-region_part)

  pub tables_sized : IsLimited g → IsSized t
  tables_sized limited = search (rules, use_sum, page_sum, threads_few, table_sum, frames_few)
