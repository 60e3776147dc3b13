-- Each page table is one that some page needs, and tables of a level stand by domain and address
use Rattle.spec_laws.proofs.Common.{AreShapes, AreStacked, AreTablesInOrder, Arrives, Ascends, Bool, CanMap, Cap, Directory, Domain, Global, IsBefore, IsIn, IsNamed, IsTableFor, IsTableOfSpace, IsThere, Level, List, MappedPage, Mapping, Object, Page}
use Rattle.spec_laws.proofs.Common.{PageTable, Rises, Shape, Some, Table, TableOf, Tables, Upper, [], above, all_tables, ap, append_assoc, arch, arith, arrives, as_many, at_place, before, below, cases_lt, cond, count_by, domain_tables, drop, eq-eqb}
use Rattle.spec_laws.proofs.Common.{eqb-true, false, first_of, from_ones, from_place, from_runs, gather, gather_ones, gathered, get_ones, head_of, heads, in_place, inl, inr, is_of, kind_of_object, layers, length, level_number, level_of, level_series}
use Rattle.spec_laws.proofs.Common.{map, mapped_pages, mul-le-mul_right, name_at, name_of, object, object_at, object_there, objects_from, objects_stand, of_level, one_table, page_mapping, page_table, parts, place, refl, root_of, root_span, runs}
use Rattle.spec_laws.proofs.Common.{shapes, shapes_fit, shapes_stack, sizes, slice_get, span, span_some, spec_of, subst, suc, sym, system, table_of, table_part, tables_at, tables_counted, tables_rise, take, true, upper, upper_below, uppers, zero, ℕ}
use Rattle.spec_laws.proofs.Common.{rules, ◌++◌, ◌+◌, ◌-◌, ◌/◌, ◌<◌, ◌∙◌, ◌∷◌, ◌≡◌, ◌≤◌}
use Rattle.cap_model.specs.declared.kind.Kind.TheVariants as kinds
use Rattle.cap_model.specs.declared.object.Object.TheVariants as objects
use Rattle.page_tables.specs.Levels.{numbered}
use Rattle.spec_laws.proofs.Blocks.{behind}
use Rattle.spec_laws.proofs.Finding.{laid_page, maps, maps_below, pages_are, rise, some_map}
use Rattle.spec_laws.proofs.Kinding.{series_kind, table_kind}
use Rattle.spec_laws.proofs.Lists.{not_above}
use Rattle.spec_laws.proofs.RootLevels.{count_cons, ones}
use Rattle.spec_laws.proofs.Rooted.{frames_from, from_root, table_in, tables_of_domain}
use Rattle.spec_laws.proofs.Sections.{count_rises}
use Rattle.spec_laws.proofs.Tabled.{no_level, there, upper_of}
use Rattle.spec_laws.proofs.Whose.{object_stands, of_pages}

-- ---- each table is needed

-- the table at place n of these levels is arrived at, of some level for some address
pub record Reached (first : ℕ) (T : List Object) (ks : List Shape) (n : ℕ) : Type 0 where
  pub level : ℕ
  pub lowest : Shape
  pub higher : List Shape
  pub levels : drop level ks ≡ lowest ∷ higher
  pub v : ℕ
  pub within : v < root_span ks
  pub table : Arrives first T (lowest ∷ higher) v n

here : (k : Shape) (ks : List Shape) (xs : List Mapping) (y : Mapping) (first link : ℕ) (T back : List Object) (n : ℕ)
    → AreStacked (k ∷ ks) → AreShapes (k ∷ ks) → IsIn y xs
    → ((x : Mapping) → IsIn x xs → x.at < root_span (k ∷ ks)) → T ≡ numbered first link (layers (k ∷ ks) xs) ++ back
    → above k ks xs ≤ n → n < sizes (layers (k ∷ ks) xs) → Reached first T (k ∷ ks) n
here k ks xs y first link T back n stacked fit i h t low l =
    let rs = runs (span k) xs in let p = n - above k ks xs in
    let r = at_place rs p (omega (arith, low, l)) in
    let o = one_table (span k) xs r.0 (in_place r.0 rs p r.1) in let x = o.some in
    let there = from_runs (span k) x.0 xs r.0 (in_place r.0 rs p r.1) x.1 in
    let is : n ≡ above k ks xs + p = omega (arith, low) in
    record {
      level = 0;
      lowest = k;
      higher = ks;
      levels = refl;
      v = x.0.at;
      within = h x.0 there;
      table = (arrives k ks xs y first link T back x.0.at stacked fit i h (h x.0 there) t n).1 (search (rules));
    }

reached : (ks : List Shape) (xs : List Mapping) (y : Mapping) (first link : ℕ) (T back : List Object) (n : ℕ) → AreStacked ks
    → AreShapes ks → IsIn y xs → ((x : Mapping) → IsIn x xs → x.at < root_span ks)
    → T ≡ numbered first link (layers ks xs) ++ back → n < sizes (layers ks xs) → Reached first T ks n
reached [] xs y first link T back n stacked fit i h t l = absurd (omega (arith, l))
reached (k ∷ []) xs y first link T back n stacked fit i h t l = here k [] xs y first link T back n stacked fit i h t
    (omega arith) l
reached (k ∷ m ∷ ks) xs y first link T back n stacked fit i h t l =
    let rs = runs (span k) xs in let U = uppers k rs in
    let next = first + sizes (layers (m ∷ ks) U) in let mine = map (table_of k link) rs in
    let split : T ≡ numbered first next (layers (m ∷ ks) U) ++ (mine ++ back) = search (rules, append_assoc) in
    let bound : 0 < root_span (m ∷ ks) = omega (arith, h y i) in
    let up = upper_of k xs y i in
    elim (cases_lt n (above k (m ∷ ks) xs)) [
      | inl f ↦
          let ih = reached (m ∷ ks) U up.0 first next T (mine ++ back) n stacked.1 (λ s q. fit s (inr q)) up.1
          (upper_below k xs (root_span (m ∷ ks)) bound h) split f in
          record {
            level = suc ih.level;
            lowest = ih.lowest;
            higher = ih.higher;
            levels = ih.levels;
            v = ih.v;
            within = ih.within;
            table = ih.table;
          }
      | inr f ↦ here k (m ∷ ks) xs y first link T back n stacked fit i h t (omega (arith, f)) l
    ]

-- ---- tables of a level stand by address

ascends_up : (l : Shape) (g : ℕ → ℕ) (rs : List (List Mapping)) → Rises (heads (span l) rs)
    → Ascends (gather (λ j r. upper l (g j) r ∷ []) rs)
ascends_up l g [] r = tt
ascends_up l g (a ∷ []) r = (tt, tt)
ascends_up l g (a ∷ b ∷ rs) r =
    let less : head_of (span l) a < head_of (span l) b = r.0 in
    (mul-le-mul_right (span l) (omega (arith, less)), ascends_up l (λ j. g (suc j)) (b ∷ rs) r.1)

-- tables of the lowest of these levels stand in order of their addresses
abbrev Sorted : ℕ → List Object → List Shape → ℕ → ℕ → ℕ → ℕ → Type 0
Sorted first T [] v w m n = Unit {0}
Sorted first T (l ∷ ls) v w m n = Arrives first T (l ∷ ls) v m → Arrives first T (l ∷ ls) w n → v / span l < w / span l → m < n

lowest : (l : Shape) (ls : List Shape) (xs : List Mapping) (y : Mapping) (first link : ℕ) (T back : List Object) (v w m n : ℕ)
    → AreStacked (l ∷ ls) → AreShapes (l ∷ ls) → IsIn y xs → Ascends xs
    → ((x : Mapping) → IsIn x xs → x.at < root_span (l ∷ ls)) → v < root_span (l ∷ ls) → w < root_span (l ∷ ls)
    → T ≡ numbered first link (layers (l ∷ ls) xs) ++ back → Sorted first T (l ∷ ls) v w m n
lowest l ls xs y first link T back v w m n stacked fit i asc h b c t a e less =
    let p = (arrives l ls xs y first link T back v stacked fit i h b t m).0 a in
    let q = (arrives l ls xs y first link T back w stacked fit i h c t n).0 e in
    elim (cases_lt p.number q.number) [
      | inl f ↦ omega (arith, f, p.is, q.is)
      | inr f ↦
          let le = not_above (head_of (span l)) (runs (span l) xs) q.number p.number q.run p.run
          (tables_rise (span l) (span_some l (fit l (inl refl))) xs asc) q.at p.at (omega (arith, f)) in
          absurd (omega (arith, le, less, p.head, q.head))
    ]

sorted : (j : ℕ) (ks : List Shape) (l : Shape) (ls : List Shape) (xs : List Mapping) (y : Mapping) (first link : ℕ)
    (T back : List Object) (v w m n : ℕ) → drop j ks ≡ l ∷ ls → AreStacked ks → AreShapes ks → IsIn y xs → Ascends xs
    → ((x : Mapping) → IsIn x xs → x.at < root_span ks) → v < root_span ks → w < root_span ks
    → T ≡ numbered first link (layers ks xs) ++ back → Sorted first T (l ∷ ls) v w m n
sorted zero [] l ls xs y first link T back v w m n e stacked fit i asc h b c t = absurd (no_level 0 l ls e)
sorted zero (k ∷ ks) l ls xs y first link T back v w m n e stacked fit i asc h b c t =
    subst (λ z. Sorted first T z v w m n) e (lowest k ks xs y first link T back v w m n stacked fit i asc h b c t)
sorted (suc j) [] l ls xs y first link T back v w m n e stacked fit i asc h b c t = absurd (no_level (suc j) l ls e)
sorted (suc j) (k ∷ []) l ls xs y first link T back v w m n e stacked fit i asc h b c t = absurd (no_level j l ls e)
sorted (suc j) (k ∷ o ∷ ks) l ls xs y first link T back v w m n e stacked fit i asc h b c t =
    let rs = runs (span k) xs in let U = uppers k rs in
    let next = first + sizes (layers (o ∷ ks) U) in let mine = map (table_of k link) rs in
    let bound : 0 < root_span (o ∷ ks) = omega (arith, b) in
    let up = upper_of k xs y i in
    let rising = ascends_up k (λ j. j) rs (tables_rise (span k) (span_some k (fit k (inl refl))) xs asc) in
    sorted j (o ∷ ks) l ls U up.0 first next T (mine ++ back) v w m n e stacked.1 (λ s q. fit s (inr q)) up.1 rising
    (upper_below k xs (root_span (o ∷ ks)) bound h) b c (t ∙ append_assoc (numbered first next (layers (o ∷ ks) U)) mine back)

-- ---- counts of page tables

pages_same : (l m : Level) → kinds.Pages l ≡ kinds.Pages m → l ≡ m
pages_same l m e = cc

-- each lesser count is that of one that passes
attained : (p : PageTable → Bool) (xs : List PageTable) (a n : ℕ) → n < count_by p (take a xs)
    → (b : ℕ) × (x : PageTable) × (slice_get xs b ≡ Some x) × (p x ≡ true) × (count_by p (take b xs) ≡ n)
attained p [] zero n l = absurd (omega (arith, l))
attained p [] (suc a) n l = absurd (omega (arith, l))
attained p (y ∷ ys) zero n l = absurd (omega (arith, l))
attained p (y ∷ ys) (suc a) n l = by_test (p y) refl n l (λ m k. attained p ys a m k) where
  by_test : (b : Bool) → p y ≡ b → (n : ℕ) → n < count_by p (y ∷ take a ys)
      → ((m : ℕ) → m < count_by p (take a ys) → (b : ℕ) × (x : PageTable) × (slice_get ys b ≡ Some x) × (p x ≡ true)
      × (count_by p (take b ys) ≡ m))
      → (b : ℕ) × (x : PageTable) × (slice_get (y ∷ ys) b ≡ Some x) × (p x ≡ true) × (count_by p (take b (y ∷ ys)) ≡ n)
  by_test true e zero l more = (0, y, refl, e, refl)
  by_test true e (suc n) l more =
      let one : ones p y ≡ 1 = ap (λ z. cond z 1 0) e in
      let r = more n (omega (arith, l, count_cons p y (take a ys), one)) in
      (suc r.0, r.1, r.2, r.3, omega (arith, count_cons p y (take r.0 ys), one, r.4))
  by_test false e n l more =
      let no : ones p y ≡ 0 = ap (λ z. cond z 1 0) e in
      let r = more n (omega (arith, l, count_cons p y (take a ys), no)) in
      (suc r.0, r.1, r.2, r.3, omega (arith, count_cons p y (take r.0 ys), no, r.4))

-- an object of a level's kind is a table of the level
from_kind : (o : Object) (l : Level) → kind_of_object o ≡ kinds.Pages l → (slots : List (ℕ × Cap)) × (o ≡ objects.Pages l slots)
from_kind (objects.Pages m slots) l e = (slots, ap (λ z. objects.Pages z slots) (pages_same m l e))
from_kind _ l e = absurd cc

same_level : (l m : Level) → level_number l ≡ level_number m → l ≡ m
same_level Global Global e = refl
same_level Upper Upper e = refl
same_level Directory Directory e = refl
same_level Table Table e = refl
same_level _ _ e = absurd (omega (arith, e))

ascends_map : (f : Page → Mapping) (g : ℕ → MappedPage → Page) → ((n : ℕ) (p : MappedPage) → (f (g n p)).at ≡ p.at)
    → (ps : List MappedPage) → Rises (map (λ p. p.at) ps) → Ascends (map f (gather (λ n p. g n p ∷ []) ps))
ascends_map f g at [] r = tt
ascends_map f g at (p ∷ []) r = (tt, tt)
ascends_map f g at (p ∷ q ∷ ps) r =
    let less : p.at < q.at = r.0 in
    (omega (arith, less, at 0 p, at 1 q), ascends_map f (λ n. g (suc n)) (λ n. at (suc n)) (q ∷ ps) r.1)

module _ (t : Tables) (can : CanMap t) where
  -- what is mapped in a space stands in order
  in_order : (d : ℕ) (x : Domain) (h : slice_get t.flat.domains d ≡ Some x) → Ascends (maps t can d x h)
  in_order d x h =
      subst (λ (z : List Page). Ascends (map (page_mapping (frames_from t)) z)) (sym (pages_are t can d x h))
      (ascends_map (page_mapping (frames_from t)) (λ n p. laid_page t can d x h n p) (λ n p. refl) (mapped_pages (system t) d)
      (rise t can d x h).rise)

  -- ---- each is needed

  needed : (d n : ℕ) (x : Domain) (h : slice_get t.flat.domains d ≡ Some x) → n < length (tables_of_domain t d)
      → Reached (root_of t d) (objects_from (spec_of t) (root_of t d)) (shapes (arch t)) n
  needed d n x h l =
      let y = some_map t can d x h in
      let many = as_many (root_of t d) 0 (layers (shapes (arch t)) (maps t can d x h)) in
      reached (shapes (arch t)) (maps t can d x h) y.0 (root_of t d) 0 (objects_from (spec_of t) (root_of t d))
      (drop (length (tables_of_domain t d)) (objects_from (spec_of t) (root_of t d))) n
      (shapes_stack (arch t)) (shapes_fit (arch t)) y.1 (maps_below t can d x h) (from_root t d x h) (omega (arith, l, many))

  as_long : (d : ℕ) → length (tables_of_domain t d) ≡ length (tables_at t 0 0 d)
  as_long d = tables_counted t (root_of t d) (frames_from t) d ∙ sym (tables_counted t 0 0 d)

  all : (at : ℕ) (level : Level) (slots : List (ℕ × Cap)) → object_at (spec_of t) at ≡ Some (objects.Pages level slots)
      → IsTableOfSpace t (spec_of t) (root_of t) at
  all at level slots o =
      let p = object_stands t at (objects.Pages level slots) o in let w = of_pages p.what p.sort in
      let is : IsThere t (TableOf w.0 w.1) = subst (λ z. IsThere t z) w.2 p.there in
      let x = is.0 in
      let r = needed w.0 w.1 x.0 x.1 (omega (arith, as_long w.0, below (tables_at t 0 0 w.0) w.1 is.1.0 is.1.1)) in
      let stands : place t (TableOf w.0 w.1) ≡ root_of t w.0 + w.1 = omega arith in
      search (rules, here, lowest)

  -- ---- and they stand in order

  -- the tables of a domain stand before those of the next ones
  before_next : (d e : ℕ) (x : Domain) → slice_get t.flat.domains d ≡ Some x → d < e
      → root_of t d + length (tables_of_domain t d) ≤ root_of t e
  before_next d e x h l =
      let ones : length (domain_tables t d x) ≡ length (tables_at t 0 0 d) = search (rules, gather_ones) in
      let mine : root_of t d ≡ first_of t 6 + before (domain_tables t) t.flat.domains d = omega arith in
      let other : root_of t e ≡ first_of t 6 + before (domain_tables t) t.flat.domains e = omega arith in
      omega (arith, ones, as_long d, behind (domain_tables t) t.flat.domains d e x h l, mine, other)

  order : (d e v w j m n : ℕ) (x y : Domain) (l : Shape) (ls : List Shape) → slice_get t.flat.domains d ≡ Some x
      → slice_get t.flat.domains e ≡ Some y → drop j (shapes (arch t)) ≡ l ∷ ls
      → v < root_span (shapes (arch t)) → w < root_span (shapes (arch t)) → IsTableFor (spec_of t) (root_of t d) (l ∷ ls) v m
      → IsTableFor (spec_of t) (root_of t e) (l ∷ ls) w n
      → IsBefore d (v / span l) e (w / span l) → root_of t d + m < root_of t e + n
  order d e v w j m n x y l ls h g s b c a o (inl less) =
      let low = (there t can d j v x l ls h s b).1 m a in
      omega (arith, low, as_many (root_of t d) 0 (layers (shapes (arch t)) (maps t can d x h)), before_next d e x h less)
  order d e v w j m n x y l ls h g s b c a o (inr r) =
      let z = some_map t can d x h in
      let less = sorted j (shapes (arch t)) l ls (maps t can d x h) z.0 (root_of t d) 0 (objects_from (spec_of t) (root_of t d))
      (drop (length (tables_of_domain t d)) (objects_from (spec_of t) (root_of t d))) v w m n s (shapes_stack (arch t))
      (shapes_fit (arch t)) z.1 (in_order d x h) (maps_below t can d x h) b c (from_root t d x h) a
      (subst (λ k. IsTableFor (spec_of t) (root_of t k) (l ∷ ls) w n) (sym r.0) o) r.1 in
      let root : root_of t d ≡ root_of t e = ap (root_of t) r.0 in
      omega (arith, less, root)

  -- ---- numbers

  -- where a page table stands among all, and its level
  record Stands (at : ℕ) (l : Level) : Type 0 where
    among : ℕ
    is : at ≡ first_of t 6 + among
    table : PageTable
    listed : slice_get (all_tables t) among ≡ Some table
    level : table.level ≡ l
    part : IsIn (table_part (all_tables t) among table) (parts t)
    stands : place t (TableOf table.domain table.place) ≡ at

  stands_among : (at : ℕ) (l : Level) (slots : List (ℕ × Cap)) → object_at (spec_of t) at ≡ Some (objects.Pages l slots)
      → Stands at l
  stands_among at l slots o =
      let p = object_stands t at (objects.Pages l slots) o in let w = of_pages p.what p.sort in
      let is : IsThere t (TableOf w.0 w.1) = subst (λ z. IsThere t z) w.2 p.there in
      let x = is.0 in let e = is.1 in
      let m = before (domain_tables t) t.flat.domains w.0 + w.1 in
      let y = page_table w.0 w.1 (level_of e.0) in
      let g : ℕ → Object → PageTable = λ n z. page_table w.0 n (level_of z) in
      let stand : place t (TableOf w.0 w.1) ≡ first_of t 6 + m = omega arith in
      let kind : kinds.Pages l ≡ kinds.Pages (level_of e.0) =
      ap kind_of_object (sym p.is ∙ ap (object t) w.2) ∙ table_kind t w.0 w.1 e.0 e.1 ∙ sym (series_kind (level_of e.0)) in
      record {
        among = m;
        is = sym p.stands ∙ ap (λ z. place t z) w.2 ∙ stand;
        table = y;
        listed = gathered (domain_tables t) t.flat.domains w.0 x.0 w.1 y m x.1
            (get_ones g (tables_at t 0 0 w.0) w.1 e.0 e.1) refl;
        level = sym (pages_same l (level_of e.0) kind);
        part = table_in t w.0 x.0 x.1 w.1 e.0 e.1;
        stands = subst (λ z. place t z ≡ at) w.2 p.stands;
      }

  abbrev number_at : Level → ℕ → ℕ
  number_at l at = of_level l (all_tables t) (at - first_of t 6)

  named : (at : ℕ) (l : Level) (slots : List (ℕ × Cap)) → object_at (spec_of t) at ≡ Some (objects.Pages l slots)
      → IsNamed (spec_of t) at (level_series l) (number_at l at)
  named at l slots o =
      let s = stands_among at l slots o in let p = table_part (all_tables t) s.among s.table in
      let index : at - first_of t 6 ≡ s.among = omega (arith, s.is) in
      let P : Level → Type 0 = λ z. name_at (spec_of t) at ≡ name_of (level_series z) (of_level z (all_tables t) s.among) in
      let here : P s.table.level = ap (name_at (spec_of t)) (sym s.stands) ∙ ((objects_stand t).name p s.part) in
      subst P s.level here ∙ ap (λ z. name_of (level_series l) (of_level l (all_tables t) z)) (sym index)

  rising : (at to : ℕ) (l : Level) (slots more : List (ℕ × Cap)) → object_at (spec_of t) at ≡ Some (objects.Pages l slots)
      → object_at (spec_of t) to ≡ Some (objects.Pages l more) → at < to → number_at l at < number_at l to
  rising at to l slots more o u less =
      let a = stands_among at l slots o in let b = stands_among to l more u in
      let low : at - first_of t 6 ≡ a.among = omega (arith, a.is) in
      let high : to - first_of t 6 ≡ b.among = omega (arith, b.is) in
      let mine : number_at l at ≡ of_level l (all_tables t) a.among = ap (of_level l (all_tables t)) low in
      let other : number_at l to ≡ of_level l (all_tables t) b.among = ap (of_level l (all_tables t)) high in
      let passes : is_of l a.table ≡ true = eq-eqb (level_number a.table.level) (level_number l) (ap level_number a.level) in
      let r = count_rises (is_of l) (all_tables t) a.among b.among a.table a.listed passes (omega (arith, a.is, b.is, less)) in
      subst (λ z. z < number_at l to) (sym mine) (subst (λ z. of_level l (all_tables t) a.among < z) (sym other) r)

  filled : (at n : ℕ) (l : Level) (slots : List (ℕ × Cap)) → object_at (spec_of t) at ≡ Some (objects.Pages l slots)
      → n < number_at l at
      → (q : ℕ) × (more : List (ℕ × Cap)) × (object_at (spec_of t) q ≡ Some (objects.Pages l more)) × (number_at l q ≡ n)
  filled at n l slots o less =
      let b = attained (is_of l) (all_tables t) (at - first_of t 6) n less in
      let f = from_place (domain_tables t) t.flat.domains b.0 b.1 b.2 in
      let e = from_ones (λ i z. page_table f.place i (level_of z)) (tables_at t 0 0 f.place) f.number b.1 f.stands in
      let w = TableOf f.place f.number in
      let sum : b.0 ≡ before (domain_tables t) t.flat.domains f.place + f.number = f.sum in
      let q = first_of t 6 + b.0 in
      let stand : place t w ≡ q = omega (arith, sum) in
      let level : level_of e.0 ≡ l = search (rules, same_level, eqb-true) in
      let kind = table_kind t f.place f.number e.0 e.1 ∙ sym (series_kind (level_of e.0)) ∙ ap (λ z. kinds.Pages z) level in
      let is = from_kind (object t w) l kind in
      let index : q - first_of t 6 ≡ b.0 = omega arith in (
        q,
        is.0,
        ap (object_at (spec_of t)) (sym stand) ∙ object_there t w ((f.item, f.here), (e.0, e.1)) ∙ ap (λ z. Some z) is.1,
        ap (of_level l (all_tables t)) index ∙ b.4,
      )

  pub tables_in_order : AreTablesInOrder t (spec_of t) (root_of t)
  tables_in_order = record {
    all = all;
    order = order;
    numbered = record { number = number_at; named = named; rise = rising; from_0 = filled };
  }
