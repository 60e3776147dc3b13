-- Each domain has a root of its own
use Rattle.spec_laws.proofs.Common.{AreRoots, CanMap, Domain, Endpoint, IsIn, IsRootOf, List, Mapping, Object, OfDomain, Pages, Part, Some, TableOf, Tables, [], all_tables, ap, arch, arith, before, below, count_by, domain_tables, from_map, in_map}
use Rattle.spec_laws.proofs.Common.{is_of, level_of, level_series, map, name_at, name_of, object, object_at, objects_stand, of_level, page_mapping, page_table, pages_at, parts, place, refl, root_of, root_series, root_span, shapes, slice_get, spec_of}
use Rattle.spec_laws.proofs.Common.{rules, stands, subst, sym, table_part, ℕ, ◌+◌, ◌<◌, ◌∙◌, ◌∷◌, ◌≡◌}
use Rattle.spec_laws.proofs.Finding.{maps_below, some_map}
use Rattle.spec_laws.proofs.Members.{index_is}
use Rattle.spec_laws.proofs.Rooted.{frames_from, table_in, tables_of_domain}
use Rattle.spec_laws.proofs.RootLevels.{Fine, count_each, first_table, one_in_domain, root_level, root_named, root_whole, take_before}
use Rattle.spec_laws.proofs.SlotLists.{some}

fine_of : (bound : ℕ) (xs : List Mapping) (m : Mapping) → IsIn m xs → ((x : Mapping) → IsIn x xs → x.at < bound) → Fine bound xs
fine_of bound [] m i h = absurd i
fine_of bound (x ∷ xs) m i h = record { first = x; rest = xs; is = refl; low = h }

module _ (t : Tables) (can : CanMap t) where
  -- the mappings of a domain, wherever frames stand
  fine : (frames d : ℕ) (x : Domain) → slice_get t.flat.domains d ≡ Some x
      → Fine (root_span (shapes (arch t))) (map (page_mapping frames) (pages_at t d))
  fine frames d x h =
      let m = some_map t can d x h in
      let p = from_map (page_mapping (frames_from t)) m.0 (pages_at t d) m.1 in
      fine_of (root_span (shapes (arch t))) (map (page_mapping frames) (pages_at t d)) (page_mapping frames p.0)
      (in_map (page_mapping frames) p.0 (pages_at t d) p.1) (λ z i. (
      let q = from_map (page_mapping frames) z (pages_at t d) i in
      let l = maps_below t can d x h (page_mapping (frames_from t) q.0) (in_map (page_mapping (frames_from t)) q.0
      (pages_at t d) q.1) in
      subst (λ w. w < root_span (shapes (arch t))) (ap (λ (w : Mapping). w.at) q.2) l))

  -- the root's part: its number is that of the domain
  pub record RootPart (d : ℕ) : Type 0 where
    pub part : Part
    pub there : IsIn part (parts t)
    pub what : part.what ≡ TableOf d 0
    pub series_is : part.series ≡ level_series (root_level (arch t))
    pub number : part.number ≡ d
    pub owner : part.owner ≡ OfDomain d

  pub root_part : (d : ℕ) (x : Domain) → slice_get t.flat.domains d ≡ Some x → RootPart d
  root_part d x h =
      let a = arch t in let first = first_table a 0 (map (page_mapping 0) (pages_at t d)) (fine 0 d x h) in
      let o : Object = Pages (root_level a) first.0 in
      let m = before (domain_tables t) t.flat.domains d + 0 in
      let at : m ≡ before (domain_tables t) t.flat.domains d = omega arith in
      let each : (n : ℕ) (y : Domain) → slice_get t.flat.domains n ≡ Some y
      → count_by (is_of (root_level a)) (domain_tables t n y) ≡ 1 =
      λ n y g. one_in_domain a n (map (page_mapping 0) (pages_at t n)) (fine 0 n y g) in
      let number : of_level (root_level a) (all_tables t) m ≡ d = search (rules, root_level, take_before, count_each, below) in
      record {
        part = table_part (all_tables t) m (page_table d 0 (level_of o));
        there = table_in t d x h 0 o first.1;
        what = refl;
        series_is = refl;
        number = number;
        owner = refl;
      }

  root_is : (d : ℕ) (x : Domain) → slice_get t.flat.domains d ≡ Some x → IsRootOf (spec_of t) d (root_of t d)
  root_is d x h =
      let a = arch t in let r = root_part d x h in
      let o = first_table a (root_of t d) (map (page_mapping (frames_from t)) (pages_at t d)) (fine (frames_from t) d x h) in
      let at : place t r.part.what ≡ root_of t d = ap (λ z. place t z) r.what in
      record {
        named = ap (λ z. name_at (spec_of t) z) (sym at) ∙ (objects_stand t).name r.part r.there
            ∙ ap (λ z. name_of z r.part.number) (r.series_is ∙ root_named a) ∙ ap (λ z. name_of (root_series a) z) r.number;
        level = root_level a;
        slots = o.0;
        is = ap (λ z. object_at (spec_of t) z) (sym at) ∙ (objects_stand t).object r.part r.there ∙ ap (λ z. Some (object t z))
            r.what ∙ ap (λ z. Some z) (index_is (tables_of_domain t d) 0 Endpoint (Pages (root_level a) o.0) o.1);
        whole = root_whole a;
      }

  apart : (d e : ℕ) (x y : Domain) → slice_get t.flat.domains d ≡ Some x → slice_get t.flat.domains e ≡ Some y
      → root_of t d ≡ root_of t e → d ≡ e
  apart d e x y h g same = search (rules, root_part, some, stands)

  pub roots_are : AreRoots t (spec_of t) (root_of t)
  roots_are = record { each = root_is; apart = apart }
