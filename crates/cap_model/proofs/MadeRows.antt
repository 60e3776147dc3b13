-- Rows and classes that are made one behind another.
use Rattle.cap_model.proofs.Common.{Authority, Bool, Class, Edge, HasClass, HasNew, HasRow, IsClass, IsIn, IsMade, IsSorted, IsTable, List, None, Reply, Row, Some, [], ap, append-nil, arith, cases_lt, edges_of, false, flat_map-append}
use Rattle.cap_model.proofs.Common.{flat_map_same, get_behind, get_front, get_or, inl, inr, is_eq, length, list_cmp, map, place_in, place_of, refl, reply_to, same_Some, single, slice_get, slice_get-get_or, slice_get_within, split_get, subst, sym}
use Rattle.cap_model.proofs.Common.{rules, table_edges, take, take-append-le, take-append_seam, true, ℕ, ◌++◌, ◌<◌, ◌∙◌, ◌∷◌, ◌≡◌, ◌≤◌, ◌⊎◌}
use Rattle.cap_model.specs.declared.making.Tabling.{Tabling}
use Rattle.cap_model.proofs.PairLists.{is_eq-same, list_itself}
use Rattle.cap_model.proofs.RowEdges.{in_take}

pub pushed : {X : Type 0} (xs : List X) (x : X) (k : ℕ) (y : X) → slice_get (xs ++ x ∷ []) k ≡ Some y
    → (slice_get xs k ≡ Some y) ⊎ ((k ≡ length xs) × (x ≡ y))
pushed xs x k y e = grind (arith, split_get, single)

pub pushed_last : {X : Type 0} (xs : List X) (x : X) → slice_get (xs ++ x ∷ []) (length xs) ≡ Some x
pushed_last xs x = get_behind xs (x ∷ []) 0 (length xs) (omega arith)

-- ---- one row more

module _ (classes classes' : List Class) (rows : List Row) (r : Row) (c : Class) (table : IsTable classes rows)
    (grows : (k : ℕ) (d : Class) → slice_get classes k ≡ Some d → slice_get classes' k ≡ Some d)
    (fresh : (k : ℕ) (d : Class) → slice_get classes' k ≡ Some d → (slice_get classes k ≡ Some d)
    ⊎ ((k ≡ r.class) × (d.label ≡ r.label)))
    (there : slice_get classes' r.class ≡ Some c) where
  class_of_row : (i : ℕ) (s : Row) → slice_get rows i ≡ Some s → (d : Class) × (slice_get classes s.class ≡ Some d)
      × (slice_get classes' s.class ≡ Some d)
  class_of_row i s e =
      let d : Class = get_or classes s.class c in
      let old : slice_get classes s.class ≡ Some d = slice_get-get_or classes s.class c (table.classed i s e) in
      (d, old, grows s.class d old)

  same_edges : (some : List Row) → ((s : Row) → IsIn s some → IsIn s rows) → table_edges classes' some ≡ table_edges classes some
  same_edges some within = search (rules, flat_map_same, slice_get, place_of, class_of_row)

  pub edges_added : table_edges classes' (rows ++ r ∷ []) ≡ table_edges classes rows ++ edges_of (Some c) r
  edges_added = search (rules, flat_map-append, slice_get, same_edges, append-nil)

  pub row_added : c.label ≤ r.label → ((k : ℕ) (d : Class) → slice_get classes' k ≡ Some d → IsClass d)
      → ((j k : ℕ) (d e : Class) → slice_get classes' j ≡ Some d → slice_get classes' k ≡ Some e
      → d.pairs.items ≡ e.pairs.items → j ≡ k)
      → ((i : ℕ) (s : Row) → slice_get rows i ≡ Some s → s.label < r.label) → r.first ≡ length (table_edges classes rows)
      → IsSorted (map (reply_to 0) r.replies.items) → IsSorted (table_edges classes rows ++ edges_of (Some c) r)
      → IsTable classes' (rows ++ r ∷ [])
  row_added low lists apart up first replies sorted = record {
    sorted = subst IsSorted (sym edges_added) sorted;
    rising = search (rules, pushed, slice_get_within);
    places = search (rules, pushed, slice_get_within, take-append-le, same_edges, in_take, take-append_seam);
    classed = search (rules, pushed, class_of_row, slice_get_within);
    least = search (rules, pushed, class_of_row, slice_get);
    replies = λ i s p. elim (pushed rows r i s p) [
      | inl h ↦ table.replies i s h
      | inr h ↦ subst (λ (z : Row). IsSorted (map (reply_to 0) z.replies.items)) h.1 replies
    ];
    lists = lists;
    numbered = λ k d p. elim (fresh k d p) [
      | inl h ↦ let n = table.numbered k d h in (n.0, n.1, get_front rows (r ∷ []) n.0 n.1 n.2, n.3, n.4)
      | inr h ↦ (length rows, r, pushed_last rows r, sym h.0, sym h.1)
    ];
    apart = apart;
  }

-- ---- one class more

module _ (edges : List Edge) (old new : Tabling) (label : ℕ) (pairs : List (Authority × ℕ)) (before k : ℕ) (made : IsMade edges
    old) (h : HasNew old label pairs before new k) where
  known_more : (j : ℕ) (d : Class) → slice_get new.classes.items j ≡ Some d → place_in new d.pairs.items ≡ Some j
  known_more j d p = search (rules, pushed, slice_get, list_itself, is_eq-same)

  only_more : (q : Class) (j : ℕ) → place_in new q.pairs.items ≡ Some j → (c : Class) × (slice_get new.classes.items j ≡ Some c)
      × (c.pairs.items ≡ q.pairs.items)
  only_more q j e = by_test (is_eq (list_cmp pairs q.pairs.items)) refl
    where
      by_test : (b : Bool) → is_eq (list_cmp pairs q.pairs.items) ≡ b → (c : Class) × (slice_get new.classes.items j ≡ Some c)
          × (c.pairs.items ≡ q.pairs.items)
      by_test true t =
          let there : Some k ≡ Some j = search (rules) in
          let here : length old.classes.items ≡ j = sym h.place ∙ same_Some k j there in
          let at : slice_get new.classes.items j ≡ Some h.class = search (rules, slice_get, pushed_last) in
          (h.class, at, h.pairs_are ∙ is_eq-same pairs q.pairs.items t)
      by_test false t =
          let there : place_in old q.pairs.items ≡ Some j = search (rules) in
          let c = made.only q j there in
          (c.0, ap (λ (cs : List Class). slice_get cs j) h.classes ∙ get_front old.classes.items (h.class ∷ []) j c.0 c.1, c.2)

-- ---- the row of a run

-- a list has one place where Reply would stand
one_before : (c d : Class) → IsClass c → IsClass d → c.pairs.items ≡ d.pairs.items → c.before ≤ d.before
one_before c d p q same = elim (cases_lt d.before c.before) [
  | inl l ↦ (
      let w = p.within in
      let there = slice_get-get_or c.pairs.items d.before (Reply, 0) (omega arith) in
      let less = p.front d.before _ l there in
      let more = q.back d.before _ (omega arith) (ap (λ ps. slice_get ps d.before) (sym same) ∙ there) in
      absurd (omega arith))
  | inr ge ↦ ge
]

module _ (edges run : List Edge) (old mid new : Tabling) (r : Row) (pairs : List (Authority × ℕ)) (before : ℕ)
    (made : IsMade edges old)
    (is_class : (c : Class) → c.pairs.items ≡ pairs → c.before ≡ before → IsClass c)
    (run_is : (c : Class) → c.pairs.items ≡ pairs → c.before ≡ before → edges_of (Some c) r ≡ run)
    (replies : IsSorted (map (reply_to 0) r.replies.items)) (first : r.first ≡ length edges)
    (new_classes : new.classes.items ≡ mid.classes.items) (new_rows : new.rows.items ≡ mid.rows.items ++ r ∷ [])
    (new_places : (q : Class) → place_in new q.pairs.items ≡ place_in mid q.pairs.items)
    (up : (i : ℕ) (s : Row) → slice_get old.rows.items i ≡ Some s → s.label < r.label) (sorted : IsSorted (edges ++ run)) where
  finish : (c : Class) → slice_get mid.classes.items r.class ≡ Some c → c.pairs.items ≡ pairs → c.before ≡ before
      → c.label ≤ r.label
      → ((k : ℕ) (d : Class) → slice_get old.classes.items k ≡ Some d → slice_get mid.classes.items k ≡ Some d)
      → ((k : ℕ) (d : Class) → slice_get mid.classes.items k ≡ Some d → (slice_get old.classes.items k ≡ Some d)
      ⊎ ((k ≡ r.class) × (d.label ≡ r.label)))
      → ((k : ℕ) (d : Class) → slice_get mid.classes.items k ≡ Some d → IsClass d)
      → ((k : ℕ) (d : Class) → slice_get mid.classes.items k ≡ Some d → place_in mid d.pairs.items ≡ Some k)
      → ((q : Class) (k : ℕ) → place_in mid q.pairs.items ≡ Some k → (d : Class) × (slice_get mid.classes.items k ≡ Some d)
      × (d.pairs.items ≡ q.pairs.items))
      → mid.rows.items ≡ old.rows.items → HasRow edges old r.label run new
  finish c there pairs_are before_is low grows fresh lists known only rows_same =
      let rows : new.rows.items ≡ old.rows.items ++ r ∷ [] = new_rows ∙ ap (λ (rs : List Row). rs ++ r ∷ []) rows_same in
      let run_of : edges_of (Some c) r ≡ run = run_is c pairs_are before_is in
      let all : table_edges old.classes.items old.rows.items ++ edges_of (Some c) r ≡ edges ++ run = search (rules) in
      let apart : (j k : ℕ) (d e : Class) → slice_get mid.classes.items j ≡ Some d → slice_get mid.classes.items k ≡ Some e
      → d.pairs.items ≡ e.pairs.items → j ≡ k =
      λ j k d e p q same. same_Some j k (sym (known j d p) ∙ ap (λ ps. place_in mid ps) same ∙ known k e q) in
      let table : IsTable mid.classes.items (old.rows.items ++ r ∷ []) = row_added old.classes.items mid.classes.items
      old.rows.items r c made.table grows fresh there low lists apart up
      (first ∙ ap (λ (es : List Edge). length es) (sym made.same)) replies (subst IsSorted (sym all) sorted) in
      record {
        made = record {
          table = subst (λ (cs : List Class). IsTable cs new.rows.items) (sym new_classes)
              (subst (λ (rs : List Row). IsTable mid.classes.items rs) (sym rows) table);
          same = ap (λ (cs : List Class). table_edges cs new.rows.items) new_classes
              ∙ ap (λ (rs : List Row). table_edges mid.classes.items rs) rows
              ∙ edges_added old.classes.items mid.classes.items old.rows.items r c made.table grows fresh there ∙ all;
          known = λ k d p. new_places d ∙ known k d (subst (λ (cs : List Class). slice_get cs k ≡ Some d) new_classes p);
          only = λ q k e. (let d = only q k (sym (new_places q) ∙ e) in
              (d.0, subst (λ (cs : List Class). slice_get cs k ≡ Some d.0) (sym new_classes) d.1, d.2));
        };
        row = r;
        rows = rows;
        label_is = refl;
      }

  pub row_made : (q : Class) → q.pairs.items ≡ pairs → HasClass old r.label pairs before mid r.class
      → HasRow edges old r.label run new
  row_made q listed (inl h) =
      let found = made.only q r.class (ap (λ ps. place_in old ps) listed ∙ h.there) in
      let c : Class = found.0 in
      let pairs_are : c.pairs.items ≡ pairs = found.2 ∙ listed in
      let class : IsClass c = made.table.lists r.class c found.1 in
      let other : Class = record { label = c.label; pairs = c.pairs; before = before } in
      let class' : IsClass other = is_class other pairs_are refl in
      let a : c.before ≤ before = one_before c other class class' refl in
      let b : before ≤ c.before = one_before other c class' class refl in
      let n = made.table.numbered r.class c found.1 in
      let low = up n.0 n.1 n.2 in
      let label = n.4 in
      let back : (k : ℕ) (d : Class) → slice_get mid.classes.items k ≡ Some d → slice_get old.classes.items k ≡ Some d =
      λ k d p. subst (λ (cs : List Class). slice_get cs k ≡ Some d) h.classes p in
      finish c (ap (λ (cs : List Class). slice_get cs r.class) h.classes ∙ found.1) pairs_are (omega arith) (omega arith)
      (λ k d p. ap (λ (cs : List Class). slice_get cs k) h.classes ∙ p)
      (λ k d p. inl (back k d p))
      (λ k d p. made.table.lists k d (back k d p))
      (λ k d p. h.places d ∙ made.known k d (back k d p))
      (λ q k e. (let d = made.only q k (sym (h.places q) ∙ e) in
      (d.0, ap (λ (cs : List Class). slice_get cs k) h.classes ∙ d.1, d.2)))
      h.rows
  row_made q listed (inr h) =
      let label = h.label_is in
      finish h.class (ap (λ (cs : List Class). slice_get cs r.class) h.classes
      ∙ subst (λ (n : ℕ). slice_get (old.classes.items ++ h.class ∷ []) n ≡ Some h.class) (sym h.place)
      (pushed_last old.classes.items h.class))
      h.pairs_are h.before_is (omega arith)
      (λ k d p. ap (λ (cs : List Class). slice_get cs k) h.classes ∙ get_front old.classes.items (h.class ∷ []) k d p)
      (λ k d p. elim (pushed old.classes.items h.class k d (subst (λ (cs : List Class). slice_get cs k ≡ Some d) h.classes p)) [
        | inl g ↦ inl g
        | inr g ↦ inr (g.0 ∙ sym h.place, ap (λ (z : Class). z.label) (sym g.1) ∙ label)
      ])
      (λ k d p. elim (pushed old.classes.items h.class k d (subst (λ (cs : List Class). slice_get cs k ≡ Some d) h.classes p)) [
        | inl g ↦ made.table.lists k d g
        | inr g ↦ subst (λ (z : Class). IsClass z) g.1 (is_class h.class h.pairs_are h.before_is)
      ])
      (known_more edges old mid r.label pairs before r.class made h)
      (only_more edges old mid r.label pairs before r.class made h)
      h.rows
