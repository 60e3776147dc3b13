-- A space has a table of a level for an address exactly where a page is mapped under it, and tables have their domain's label
use Rattle.spec_laws.proofs.Common.{AreShapes, AreStacked, AreTableLabels, AreTables, AreTablesOf, Arrives, CanMap, Domain, IsIn, IsOf, List, Mapping, Object, Shape, Some, TableOf, Tables, [], above, ap, append_assoc, arch, arith}
use Rattle.spec_laws.proofs.Common.{arrives, as_many, at_place, below, div-div-eq-div-mul, drop, from_gather, from_map, head_of, heads, in_gather, in_map, in_place, in_runs, inl, inr, labels_of, layers, length, map}
use Rattle.spec_laws.proofs.Common.{mapped_pages, mul-div_cancel, mul-one, mul_assoc, objects_from, one_table, place, place_of, refl, root_of, root_span, runs, shapes, shapes_fit, shapes_stack, sizes, slice_get, span, span_some, spec_of}
use Rattle.spec_laws.proofs.Common.{rules, subst, suc, sym, system, table_of, tables_at, tables_counted, tables_exact, upper, upper_below, uppers, zero, ℕ, ◌*◌, ◌++◌, ◌+◌, ◌/◌, ◌<◌, ◌↔◌, ◌∙◌, ◌∷◌, ◌≡◌}
use Rattle.arch_policy.specs.declared.owner.Owner.TheVariants as owners
use Rattle.page_tables.specs.Levels.{numbered}
use Rattle.spec_laws.proofs.Finding.{from_maps, in_maps, mapping, maps, maps_below, some_map}
use Rattle.spec_laws.proofs.Labels.{label_at, moved}
use Rattle.spec_laws.proofs.Paging.{is_mapped, mapped_is}
use Rattle.spec_laws.proofs.Rooted.{frames_from, from_root, tables_of_domain}

-- ---- levels above others

pub no_level : (j : ℕ) (m : Shape) (ls : List Shape) → drop j [] ≡ m ∷ ls → ⊥
no_level zero m ls e = cc
no_level (suc j) m ls e = cc

-- tables of a level span so many of those of a level below it
spans_many : (j : ℕ) (l : Shape) (ks : List Shape) (m : Shape) (ls : List Shape) → AreStacked (l ∷ ks) → drop j (l ∷ ks) ≡ m ∷ ls
    → (n : ℕ) × (span m ≡ span l * n)
spans_many zero l ks m ls s e = let same : l ≡ m = cc in (1, ap span (sym same) ∙ sym (mul-one (span l)))
spans_many (suc j) l [] m ls s e = absurd (no_level j m ls e)
spans_many (suc j) l (k ∷ ks) m ls s e =
    let r = spans_many j k ks m ls s.1 e in
    (k.entries * r.0, r.1 ∙ ap (λ z. z * k.entries * r.0) s.0.step ∙ mul_assoc (span l) k.entries r.0)

-- so what begins at the table of an address stands under the same table above it
starts_under : (s n m a : ℕ) → 0 < s → m ≡ s * n → (a / s * s) / m ≡ a / m
starts_under s n m a pos e =
    ap (λ z. (a / s * s) / z) e ∙ sym (div-div-eq-div-mul (a / s * s) s n) ∙ ap (λ z. z / n) (mul-div_cancel (a / s) pos)
    ∙ div-div-eq-div-mul a s n ∙ ap (λ z. a / z) (sym e)

-- ---- what is mapped above stands for what is mapped below

pub upper_of : (l : Shape) (xs : List Mapping) (x : Mapping) → IsIn x xs → (u : Mapping) × IsIn u (uppers l (runs (span l) xs))
    × (u.at ≡ x.at / span l * span l)
upper_of l xs x i =
    let r = in_runs (span l) x xs i in let p = place_of r.0 (runs (span l) xs) r.1 in
    let u = upper l p.0 r.0 in
    let F : ℕ → List Mapping → List Mapping = λ j r. upper l j r ∷ [] in (
      u,
      in_gather F u (runs (span l) xs) p.0 r.0 p.1 (inl refl),
      ap (λ z. z * span l)
          (sym ((one_table (span l) xs r.0 r.1).same x r.2)),
    )

lower_of : (l : Shape) (xs : List Mapping) (u : Mapping) → IsIn u (uppers l (runs (span l) xs))
    → (x : Mapping) × IsIn x xs × (u.at ≡ x.at / span l * span l)
lower_of l xs u i =
    let rs = runs (span l) xs in
    let g = from_gather (λ j r. upper l j r ∷ []) u rs i in
    let x = (tables_exact (span l) xs (head_of (span l) g.1)).0 (in_map (head_of (span l)) g.1 rs (in_place g.1 rs g.0 g.2)) in
    search (rules)

-- ---- tables of a level

-- of the lowest of these levels there is a table for v just where something is mapped under it, and all tables stand below `most`
abbrev pub Tabled : ℕ → List Object → List Shape → List Mapping → ℕ → ℕ → Type 0
Tabled first T [] xs v most = ⊥
Tabled first T (l ∷ ls) xs v most = (((n : ℕ) × Arrives first T (l ∷ ls) v n)
    ↔ ((x : Mapping) × IsIn x xs × (x.at / span l ≡ v / span l))) × ((n : ℕ) → Arrives first T (l ∷ ls) v n → n < most)

lowest : (l : Shape) (ls : List Shape) (xs : List Mapping) (y : Mapping) (first link : ℕ) (T back : List Object) (v : ℕ)
    → AreStacked (l ∷ ls) → AreShapes (l ∷ ls) → IsIn y xs
    → ((x : Mapping) → IsIn x xs → x.at < root_span (l ∷ ls)) → v < root_span (l ∷ ls)
    → T ≡ numbered first link (layers (l ∷ ls) xs) ++ back → Tabled first T (l ∷ ls) xs v (sizes (layers (l ∷ ls) xs))
lowest l ls xs y first link T back v stacked fit i h b t =
    let rs = runs (span l) xs in let at = arrives l ls xs y first link T back v stacked fit i h b t in
    let exact = tables_exact (span l) xs (v / span l) in
    let to : ((n : ℕ) × Arrives first T (l ∷ ls) v n) → (x : Mapping) × IsIn x xs × (x.at / span l ≡ v / span l) =
    λ a. let p = (at a.0).0 a.1 in
    exact.0 (subst (λ z. IsIn z (heads (span l) rs)) p.head
    (in_map (head_of (span l)) p.run rs (in_place p.run rs p.number p.at))) in
    let from : ((x : Mapping) × IsIn x xs × (x.at / span l ≡ v / span l)) → (n : ℕ) × Arrives first T (l ∷ ls) v n = λ q. let r =
    from_map (head_of (span l)) (v / span l) rs (exact.1 q) in let p = place_of r.0 rs r.1 in
    (above l ls xs + p.0, (at (above l ls xs + p.0)).1 (record { number = p.0; run = r.0; at = p.1; head = r.2; is = refl })) in
    let low : (n : ℕ) → Arrives first T (l ∷ ls) v n → n < sizes (layers (l ∷ ls) xs) = λ n a. let p = (at n).0 a in
    let is = p.is in let few = below rs p.number p.run p.at in omega (arith, is, few) in ((to, from), low)

tabled : (j : ℕ) (ks : List Shape) (l : Shape) (ls : List Shape) (xs : List Mapping) (y : Mapping) (first link : ℕ)
    (T back : List Object) (v : ℕ) → drop j ks ≡ l ∷ ls → AreStacked ks → AreShapes ks → IsIn y xs
    → ((x : Mapping) → IsIn x xs → x.at < root_span ks) → v < root_span ks → T ≡ numbered first link (layers ks xs) ++ back
    → Tabled first T (l ∷ ls) xs v (sizes (layers ks xs))
tabled zero [] l ls xs y first link T back v e stacked fit i h b t = cc
tabled zero (k ∷ ks) l ls xs y first link T back v e stacked fit i h b t =
    subst (λ z. Tabled first T z xs v (sizes (layers (k ∷ ks) xs))) e (lowest k ks xs y first link T back v stacked fit i h b t)
tabled (suc j) [] l ls xs y first link T back v e stacked fit i h b t = cc
tabled (suc j) (k ∷ []) l ls xs y first link T back v e stacked fit i h b t = absurd (no_level j l ls e)
tabled (suc j) (k ∷ m ∷ ks) l ls xs y first link T back v e stacked fit i h b t =
    let rs = runs (span k) xs in let U = uppers k rs in
    let next = first + sizes (layers (m ∷ ks) U) in let mine = map (table_of k link) rs in
    let low : 0 < span k = span_some k (fit k (inl refl)) in
    let bound : 0 < root_span (m ∷ ks) = omega (arith, b) in
    let up = upper_of k xs y i in
    let ih = tabled j (m ∷ ks) l ls U up.0 first next T (mine ++ back) v e stacked.1 (λ s q. fit s (inr q)) up.1
    (upper_below k xs (root_span (m ∷ ks)) bound h) b (t ∙ append_assoc (numbered first next (layers (m ∷ ks) U)) mine back) in
    let many = spans_many (suc j) k (m ∷ ks) l ls stacked e in
    let under : (a : ℕ) → (a / span k * span k) / span l ≡ a / span l = λ a. starts_under (span k) many.0 (span l) a low many.1 in
    let to : ((n : ℕ) × Arrives first T (l ∷ ls) v n) → (x : Mapping) × IsIn x xs × (x.at / span l ≡ v / span l) =
    λ a. let u = ih.0.0 a in let x = lower_of k xs u.0 u.1 in
    (x.0, x.1, sym (under x.0.at) ∙ ap (λ z. z / span l) (sym x.2) ∙ u.2) in
    let from : ((x : Mapping) × IsIn x xs × (x.at / span l ≡ v / span l)) → (n : ℕ) × Arrives first T (l ∷ ls) v n = λ q. let u =
    upper_of k xs q.0 q.1 in ih.0.1 (u.0, u.1, ap (λ z. z / span l) u.2 ∙ under q.0.at ∙ q.2) in let all : (n : ℕ)
    → Arrives first T (l ∷ ls) v n → n < sizes (layers (k ∷ m ∷ ks) xs) = λ n a. let few = ih.1 n a in omega (arith, few) in
    ((to, from), all)

-- ---- in a spec

module _ (t : Tables) (can : CanMap t) where
  pub there : (d j v : ℕ) (x : Domain) (l : Shape) (ls : List Shape) (h : slice_get t.flat.domains d ≡ Some x)
      → drop j (shapes (arch t)) ≡ l ∷ ls → v < root_span (shapes (arch t))
      → Tabled (root_of t d) (objects_from (spec_of t) (root_of t d)) (l ∷ ls) (maps t can d x h) v
      (sizes (layers (shapes (arch t)) (maps t can d x h)))
  there d j v x l ls h e b =
      let y = some_map t can d x h in
      search (rules, tabled, maps, tables_of_domain, shapes_stack, shapes_fit, maps_below, from_root)

  pub tables_of_are : (d : ℕ) (x : Domain) → slice_get t.flat.domains d ≡ Some x → AreTablesOf t (spec_of t) d (root_of t d)
  tables_of_are d x h = λ j v l ls e b.
      let all = (there d j v x l ls h e b).0 in (
        λ a.
            let m = all.0 a in
            let p = from_maps t can d x h m.0 m.1 in (
              p.shown.at,
              p.shown.read,
              p.shown.write,
              mapped_is t can.settled d p.shown
                  (in_place p.shown (mapped_pages (system t) d) p.number p.here),
              ap (λ (z : Mapping). z.at / span l) p.is ∙ m.2,
            ),
        λ w.
            let p = is_mapped t can.settled d w.0 w.1 w.2 w.3 in
            let n = place_of p.page (mapped_pages (system t) d) p.there in
            all.1 (mapping t can d x h n.0 p.page, in_maps t can d x h n.0 p.page n.1, ap (λ z. z / span l) p.at ∙ w.4),
      )

  -- the table at a place from the root on is the domain's
  table_label : (d n : ℕ) (x : Domain) → slice_get t.flat.domains d ≡ Some x → n < length (tables_of_domain t d)
      → IsOf t (labels_of t) (root_of t d + n) (owners.OfDomain d)
  table_label d n x h l =
      let long : length (tables_of_domain t d) ≡ length (tables_at t 0 0 d) = search (rules, tables_counted, frames_from) in
      moved t (place t (TableOf d n)) (root_of t d + n) (owners.OfDomain d) (omega arith)
      (label_at t (TableOf d n) ((x, h), at_place (tables_at t 0 0 d) n (omega (arith, long, l))))

  table_labels : AreTableLabels t (spec_of t) (root_of t) (labels_of t)
  table_labels = λ d v j n x l ls h b e a.
      let low = (there d j v x l ls h e b).1 n a in
      table_label d n x h (omega (arith, low, as_many (root_of t d) 0 (layers (shapes (arch t)) (maps t can d x h))))

  pub tables_are : AreTables t (spec_of t) (root_of t) (labels_of t)
  tables_are = record { each = tables_of_are; labels_are = table_labels }
