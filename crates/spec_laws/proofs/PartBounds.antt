-- Where slots and spaces are within their limits, what is made of them can be built.
use Rattle.spec_laws.proofs.Common.{AreNamed, CanLay, FlatConnection, Given, IsBuildable, IsIn, List, None, Object, OfDomain, Option, Page, Rises, SectionsStand}
use Rattle.spec_laws.proofs.Common.{SlotUse, Some, Tables, ThreadOf, ThreadPlace, [], all_tables, arch, arith, as_many, cnodes, domain_locks, domain_tables, domain_tcbs, endpoint, endpoints, few_tables}
use Rattle.spec_laws.proofs.Common.{frame_parts, gather, gather_ones, irq, irqs, layers, length, length-gather, length-map, level_of, lock, locks, map, notification, notifications, numbered, option_map_or, owned}
use Rattle.spec_laws.proofs.Common.{page_counts, page_mapping, page_table, pages_at, parts, refl, rules, shapes, slice_get, slots_of, spaces_of, subst, sum, sym, table_parts, tables_at, tcbs, threads_at, uses_at, ℕ, ◌*◌, ◌+◌, ◌<◌, ◌≡◌, ◌≤◌}
use Rattle.spec_laws.proofs.SlotBounds.{AreFewSlots, few_uses}
use Rattle.flat_laws.specs.Small.{IsSmall}
use Rattle.system_spec.specs.declared.series.Series.TheVariants as series
use Rattle.system_spec.specs.Buildable.{table_count}
use Rattle.system_spec.proofs.Bounds.{length-eight, length-numbered}
use Rattle.spec_laws.proofs.Gathers.{gather_most}
use Rattle.spec_laws.proofs.NamedUses.{uses_named}
use Rattle.spec_laws.proofs.SpaceBounds.{HaveRegisters, few_pages, few_threads, frames_most, frames_there, pages_rising}

-- what the tables are laid out from
abbrev from : Tables → Given
from t = record { source = t.source; flat = t.flat; settled = t.settled; images = t.images }

-- ---- connections have one part of a kind at most

few_endpoints : (cs : List FlatConnection) → length (gather endpoint cs) ≤ length cs
few_endpoints cs = search (rules, length-gather)

few_notifications : (cs : List FlatConnection) → length (gather notification cs) ≤ length cs
few_notifications cs = search (rules, length-gather)

few_irqs : (cs : List FlatConnection) → length (gather irq cs) ≤ length cs
few_irqs cs = search (rules, length-gather)

-- a use has one lock at most
few_locks : (d : ℕ) (uses : List SlotUse) → length (gather (lock d) uses) ≤ length uses
few_locks d uses = search (rules, length-gather)

module _ (t : Tables) (slots_are : t.slots ≡ slots_of t.source t.flat) (spaces_are : t.spaces ≡ spaces_of (from t))
    (small : IsSmall t.flat) (slots : AreFewSlots t.source t.flat)
    (can : CanLay (from t)) (pages : sum (page_counts (from t)) ≤ 65536) where
  -- ---- by domain

  threads_few : (d : ℕ) → length (threads_at t d) ≤ 262144
  threads_few d = subst (λ z. length (option_map_or (λ s. s.threads) (slice_get z.spaces d) []) ≤ 262144) (sym spaces_are)
      (few_threads (from t) can pages d)

  pages_few : (d : ℕ) → length (pages_at t d) ≤ 65536
  pages_few d = subst (λ z. length (option_map_or (λ s. s.pages) (slice_get z.spaces d) []) ≤ 65536) (sym spaces_are)
      (few_pages (from t) can pages d)

  frames_few : length t.spaces.frames ≤ 65536 + 2 * 268435456
  frames_few = subst (λ z. length z.frames ≤ 65536 + 2 * 268435456) (sym spaces_are) (frames_most (from t) can pages)

  pub uses_few : (d : ℕ) → length (uses_at t d) ≤ 4095
  uses_few d = search (rules, few_uses)

  tables_few : (d frames : ℕ) → table_count t frames d ≤ 262144
  tables_few d frames = search (rules, few_tables, length-map, pages_few)

  -- ---- sections

  tcbs_few : length (tcbs t) ≤ 262144 * length t.flat.domains
  tcbs_few =
      gather_most (domain_tcbs t) t.flat.domains
      (λ d x e.
      omega (arith, gather_ones (λ i (thread : ThreadPlace). owned (OfDomain d) (ThreadOf d i)) (threads_at t d), threads_few d))

  locks_few : length (locks t) ≤ 262144 * length t.flat.domains
  locks_few = gather_most (domain_locks t) t.flat.domains (λ d x e. omega (arith, few_locks d (uses_at t d), uses_few d))

  all_tables_few : length (all_tables t) ≤ 262144 * length t.flat.domains
  all_tables_few =
      gather_most (domain_tables t) t.flat.domains (λ d x e. let a = gather_ones (λ j (o : Object). page_table d j (level_of o))
      (tables_at t 0 0 d) in omega (
        arith,
        a,
        as_many 0 0 (layers (shapes (arch t)) (map (page_mapping 0) (pages_at t d))),
        tables_few d 0,
      ))

  pub parts_few : length (parts t) ≤ 2147483648
  parts_few =
      let a = numbered series.CNode (cnodes t.flat.domains) in let b = numbered series.Tcb (tcbs t) in
      let c = endpoints t in let d = notifications t in
      let e = numbered series.Lock (locks t) in let f = numbered series.Irq (irqs t) in
      let g = table_parts (all_tables t) in let h = numbered series.Frame (frame_parts t.spaces.frames) in
      let whole : length (parts t) ≡ length
      a + (length b + (length c + (length d + (length e + (length f + (length g + (length h + 0))))))) =
      length-eight a b c d e f g h in
      let a1 = length-numbered series.CNode (cnodes t.flat.domains) in
      let a2 : length (cnodes t.flat.domains) ≡ length t.flat.domains = search (rules, gather_ones) in
      let b1 = length-numbered series.Tcb (tcbs t) in let b2 = tcbs_few in
      let c1 : length c ≤ length t.flat.connections = few_endpoints t.flat.connections in
      let d1 : length d ≤ length t.flat.connections = few_notifications t.flat.connections in
      let e1 = length-numbered series.Lock (locks t) in let e2 = locks_few in
      let f1 = length-numbered series.Irq (irqs t) in
      let f2 : length (irqs t) ≤ length t.flat.connections = few_irqs t.flat.connections in
      let g1 : length g ≡ length (all_tables t) = search (rules, gather_ones) in
      let g2 = all_tables_few in let h1 = length-numbered series.Frame (frame_parts t.spaces.frames) in
      let h2 : length (frame_parts t.spaces.frames) ≡ length t.spaces.frames = search (rules, gather_ones) in
      omega (arith, whole, a1, a2, b1, b2, c1, d1, e1, e2, f1, f2, g1, g2, h1, h2, frames_few, small.domains, small.connections)

  -- ---- what the making of a spec asks

  uses_there : (d : ℕ) → AreNamed (length t.flat.connections) (uses_at t d)
  uses_there d = search (rules, uses_named)

  pub buildable : HaveRegisters t.flat t.settled → ((d : ℕ) → SectionsStand (from t) d) → IsBuildable t
  buildable have stand = record {
    few = search (rules, threads_few, uses_few, tables_few, parts_few);
    named = uses_there;
    shown = λ d p i.
        subst (λ z. p.frame < length z.frames) (sym spaces_are)
        (frames_there (from t) have d p (subst (λ z. IsIn p (option_map_or (λ s. s.pages) (slice_get z.spaces d) []))
        spaces_are i));
    rise = λ d. subst (λ z. Rises (map (λ (p : Page). p.vaddr) (option_map_or (λ s. s.pages) (slice_get z.spaces d) [])))
        (sym spaces_are) (pages_rising (from t) stand d);
  }
