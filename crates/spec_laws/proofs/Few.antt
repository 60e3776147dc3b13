-- Objects and capabilities are few.
use Rattle.spec_laws.proofs.Common.{Cap, Domain, FrameInfo, FrameOf, IsSized, List, Mapping, None, Object, Option, Part, SlotUse, Some, TableOf, Tables, ThreadPlace, What, all_tables, arch, arith, as_many, cap_count, cap_sum, caps_of}
use Rattle.spec_laws.proofs.Common.{domain_tables, entry, frame_object, gather_ones, layers, length, length-map, level_of, map, object, object_sum, option_map_or, page_mapping, page_table, pages_at, parts, place, shapes, slice_get, some, spec_of}
use Rattle.spec_laws.proofs.Common.{rules, sym, tables_at, tcb, threads_at, use_cap, uses_at, ℕ, ◌+◌, ◌∙◌, ◌≡◌, ◌≤◌}
use Rattle.cap_model.specs.declared.object.Object.TheVariants as objects
use Rattle.spec_laws.proofs.Capping.{looked_up, of_levels}
use Rattle.spec_laws.proofs.Counting.{Most, parts_most}
use Rattle.spec_laws.proofs.TablesKept.{as_long, standing}
use Rattle.spec_laws.proofs.Totals.{length_gather, length_is, sum_map, sum_ones, total, total_map, totals, totals_add, totals_const, totals_each, totals_same}

module _ (t : Tables) where
  -- ---- objects

  abbrev one : What → ℕ
  one w = 1

  pub all_tables_are : totals (λ d (x : Domain). length (tables_at t 0 0 d)) t.flat.domains ≡ length (all_tables t)
  all_tables_are =
      sym (length_gather (domain_tables t) t.flat.domains ∙ totals_same (λ d (x : Domain). length (domain_tables t d x))
      (λ d x. length (tables_at t 0 0 d)) t.flat.domains (λ d x e. same d x)) where
        same : (d : ℕ) (x : Domain) → length (domain_tables t d x) ≡ length (tables_at t 0 0 d)
        same d x = gather_ones (λ j o. page_table d j (level_of o)) (tables_at t 0 0 d)

  one_most : Most t one (λ d. 1) 1 1 1 1 (λ d. length (tables_at t 0 0 d)) 1
  one_most = record {
    cnodes = λ d x e. omega arith;
    threads = λ d i. omega arith;
    endpoints = λ k. omega arith;
    notifications = λ k. omega arith;
    locks = λ d n. omega arith;
    irqs = λ k. omega arith;
    tables = λ d x e. let a = totals_each (λ j (o : Object). 1) 1 (tables_at t 0 0 d) (λ j o h. omega arith) in omega (arith, a);
    frames = λ f. omega arith;
  }

  pub parts_few : length (parts t) ≤ object_sum t
  parts_few =
      let a = parts_most t one (λ d. 1) 1 1 1 1 (λ d. length (tables_at t 0 0 d)) 1 one_most in
      omega (arith, a, length_is (parts t), totals_const 1 t.flat.domains, all_tables_are)

  pub objects_few : length (spec_of t).entries ≤ object_sum t
  objects_few = let m = length-map (parts t) (entry t) in omega (arith, m, parts_few)

  -- ---- capabilities

  abbrev caps : What → ℕ
  caps w = caps_of (object t w)

  some_most : {A : Type 0} (o : Option A) → some o ≤ 1
  some_most None = omega arith
  some_most (Some x) = omega arith

  thread_caps : (d : ℕ) (o : Option ThreadPlace)
      → caps_of (option_map_or (λ x. objects.Thread (tcb t d x)) o objects.Endpoint) ≤ 3
  thread_caps d None = omega arith
  thread_caps d (Some x) = let b = some_most (tcb t d x).buffer in omega (arith, b)

  frame_caps : (o : Option FrameInfo) → caps_of (option_map_or frame_object o objects.Endpoint) ≤ 0
  frame_caps None = omega arith
  frame_caps (Some x) = omega arith

  table_caps : (d : ℕ) → totals (λ j (o : Object). caps (TableOf d j)) (tables_at t 0 0 d) ≤ length (pages_at t d) + length
      (tables_at t 0 0 d)
  table_caps d =
      let first = place t (TableOf d 0) in let frames = place t (FrameOf 0) in
      let xs : List Mapping = map (page_mapping frames) (pages_at t d) in
      let long = as_long t 0 0 first frames d in
      let all : totals (λ j (o : Object). caps (TableOf d j)) (tables_at t 0 0 d) ≡ total caps_of (standing t d) =
      looked_up caps_of objects.Endpoint (tables_at t 0 0 d) (standing t d) long in
      let size = as_many first 0 (layers (shapes (arch t)) xs) in
      omega (arith, all, of_levels (shapes (arch t)) xs first 0, size, length-map (pages_at t d) (page_mapping frames), long)

  caps_most : Most t caps (λ d. length (uses_at t d)) 3 0 0 1 (λ d. length (pages_at t d) + length (tables_at t 0 0 d)) 0
  caps_most = record {
    cnodes = λ d x e. let f : ℕ → SlotUse → (ℕ × Cap) = λ n u. (n + 1, use_cap t d n u) in let o = gather_ones f (uses_at t d) in
        omega (arith, o);
    threads = λ d i. thread_caps d (slice_get (threads_at t d) i);
    endpoints = λ k. omega arith;
    notifications = λ k. omega arith;
    locks = λ d n. omega arith;
    irqs = λ k. omega arith;
    tables = λ d x e. table_caps d;
    frames = λ f. frame_caps (slice_get t.spaces.frames f);
  }

  pub caps_few : cap_count (spec_of t) ≤ cap_sum t
  caps_few =
      let a = parts_most t caps (λ d. length (uses_at t d)) 3 0 0 1 (λ d. length (pages_at t d) + length (tables_at t 0 0 d))
      0 caps_most in
      let uses = sum_ones (λ d (x : Domain). length (uses_at t d)) t.flat.domains in
      let pages = sum_ones (λ d (x : Domain). length (pages_at t d)) t.flat.domains in
      let both = totals_add (λ d (x : Domain). length (pages_at t d)) (λ d x. length (tables_at t 0 0 d)) t.flat.domains in
      let all : cap_count (spec_of t) ≡ total (λ (p : Part). caps p.what) (parts t) = search (rules, sum_map, total_map) in
      omega (arith, a, uses, pages, both, all, all_tables_are)

  -- ---- within the limits

  module _ (sized : IsSized t) where
    pub objects_within : length (spec_of t).entries ≤ 238592
    objects_within =
        omega (arith, objects_few, sized.domains, sized.connections, sized.uses, sized.threads, sized.tables, sized.frames)

    pub caps_within : cap_count (spec_of t) ≤ 299008
    caps_within = omega (arith, caps_few, sized.connections, sized.uses, sized.pages, sized.threads, sized.tables)
