-- The objects from a domain's root on begin with the page tables of its space
use Rattle.spec_laws.proofs.Common.{Domain, Endpoint, Entry, FrameOf, IsIn, List, Object, PageTable, Part, Some, TableOf, Tables, [], all_tables, ap, arith, at_place, before, begins_with, below, domain_tables, drop, entry, gathered, get_drop}
use Rattle.spec_laws.proofs.Common.{get_map, get_ones, in_gather, in_together, inl, length, level_of, map, objects_from, page_table, parts, place, refl, root_of, sections, slice_get, spec_of, stands, sym, table_part, table_parts, tables_at}
use Rattle.spec_laws.proofs.Common.{rules, tables_counted, ℕ, ◌++◌, ◌+◌, ◌∙◌, ◌∷◌, ◌≡◌}
use Rattle.spec_laws.proofs.Members.{index_is}

-- frame 0
abbrev pub frames_from : Tables → ℕ
frames_from t = place t (FrameOf 0)

abbrev pub tables_of_domain : Tables → ℕ → List Object
tables_of_domain t d = tables_at t (root_of t d) (frames_from t) d

module _ (t : Tables) (d : ℕ) (x : Domain) (h : slice_get t.flat.domains d ≡ Some x) where
  -- page table j of the domain, among all
  pub table_in : (j : ℕ) (o : Object) → slice_get (tables_at t 0 0 d) j ≡ Some o
      → IsIn (table_part (all_tables t) (before (domain_tables t) t.flat.domains d + j) (page_table d j (level_of o))) (parts t)
  table_in j o e =
      let y = page_table d j (level_of o) in
      let g : ℕ → Object → PageTable = λ n z. page_table d n (level_of z) in
      let m = before (domain_tables t) t.flat.domains d + j in
      let at = gathered (domain_tables t) t.flat.domains d x j y m h (get_ones g (tables_at t 0 0 d) j o e) refl in
      let p = table_part (all_tables t) m y in
      let f : ℕ → PageTable → List Part = λ n z. table_part (all_tables t) n z ∷ [] in
      in_together (sections t) 6 (table_parts (all_tables t)) p refl (in_gather f p (all_tables t) m y at (inl refl))

  object_there : (j : ℕ) (o : Object) → slice_get (tables_of_domain t d) j ≡ Some o
      → slice_get (map (λ (z : Entry). z.object) (spec_of t).entries) (root_of t d + j) ≡ Some o
  object_there j o e =
      let long : length (tables_of_domain t d) ≡ length (tables_at t 0 0 d) = search (rules, tables_counted) in
      let q = at_place (tables_at t 0 0 d) j (omega (arith, long, below (tables_of_domain t d) j o e)) in
      let p = table_part (all_tables t) (before (domain_tables t) t.flat.domains d + j) (page_table d j (level_of q.0)) in
      let at : place t (TableOf d j) ≡ root_of t d + j = omega arith in
      let f : Entry → Object = λ z. z.object in
      let got = get_map f (map (entry t) (parts t)) (place t (TableOf d j)) (entry t p)
      (get_map (entry t) (parts t) (place t (TableOf d j)) p (stands t p (table_in j q.0 q.1))) in
      ap (λ z. slice_get (map f (spec_of t).entries) z) (sym at) ∙ got
      ∙ ap (λ z. Some z) (index_is (tables_of_domain t d) j Endpoint o e)

  pub from_root : objects_from (spec_of t) (root_of t d) ≡ tables_of_domain t d ++ drop (length (tables_of_domain t d))
      (objects_from (spec_of t) (root_of t d))
  from_root = search (rules, begins_with, get_drop, object_there)
