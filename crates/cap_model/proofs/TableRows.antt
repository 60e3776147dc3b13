-- The edges of a table by its rows: where they stand, which there are, and what two rows of one class share.
use Rattle.cap_model.proofs.Common.{Authority, Bool, Class, Edge, FirstsRise, Has, HasPlaces, HasRising, IsClass, IsClassOf, IsFirstFrom, IsIn, IsPartitionPoint, IsPartitionedBy, IsRowFrom, IsRowOf, IsRowPast, IsSorted, IsTable, List, NoRowOf, None}
use Rattle.cap_model.proofs.Common.{Option, Reply, Row, Some, [], ap, append_assoc, arith, cases_lt, drop, edge, edge_to, edges_of, eqb_tells, false, flat_map, flat_map-append, from_flat_map, from_map, get_behind, get_or, get_or_from_slice_get, has}
use Rattle.cap_model.proofs.Common.{if◌then◌else◌, in_flat_map, in_map, in_place, inl, inr, length, length-append, map, nat_le, nat_lt, one_truth, place_of, refl, slice_get, slice_get-get_or, slice_get_past, slice_get_read}
use Rattle.cap_model.proofs.Common.{rules, slice_get_within, split_get, subst, suc, sym, table_edges, take, take-append-drop, take_all, true, zero, ℕ, ◌++◌, ◌+◌, ◌-◌, ◌<◌, ◌==◌, ◌∙◌, ◌∷◌, ◌≡◌, ◌≢◌, ◌≤◌, ◌⊎◌}
use Rattle.cap_model.proofs.RowEdges.{others, has_in, in_has, of_label, in_pairs, has_pair, get_in_front}
use Rattle.cap_model.proofs.EdgeOrder.{same_number}
use Rattle.cap_model.proofs.TableMembers.{one_table}
use Rattle.cap_model.proofs.Runs.{taken_place}

-- ---- lists one behind another

module _ {X Y : Type 0} (f : X → List Y) where
  pub around : (xs : List X) (i : ℕ) (x : X) → slice_get xs i ≡ Some x → flat_map f xs ≡ flat_map f (take i xs)
      ++ (f x ++ flat_map f (drop (suc i) xs))
  around [] i x e = cc
  around (z ∷ xs) zero x e = let same : z ≡ x = cc in ap (λ w. f w ++ flat_map f xs) same
  around (z ∷ xs) (suc i) x e = ap (λ ys. f z ++ ys) (around xs i x e)
      ∙ sym (append_assoc (f z) (flat_map f (take i xs)) (f x ++ flat_map f (drop (suc i) xs)))

  pub one_more : (xs : List X) (i : ℕ) (x : X) → slice_get xs i ≡ Some x
      → length (flat_map f (take (suc i) xs)) ≡ length (flat_map f (take i xs)) + length (f x)
  one_more [] i x e = cc
  one_more (z ∷ xs) zero x e = let same : z ≡ x = cc in let l = length-append (f z) [] in let m : length (f z) ≡ length (f x) =
      ap (λ w. length (f w)) same in omega arith
  one_more (z ∷ xs) (suc i) x e =
      let ih = one_more xs i x e in
      let a = length-append (f z) (flat_map f (take (suc i) xs)) in let b = length-append (f z) (flat_map f (take i xs)) in
      omega arith

  pub get_of : (xs : List X) (i j at : ℕ) (x : X) → slice_get xs i ≡ Some x → at ≡ length (flat_map f (take i xs)) + j
      → j < length (f x) → slice_get (flat_map f xs) at ≡ slice_get (f x) j
  get_of xs i j at x e n l =
      ap (λ ys. slice_get ys at) (around xs i x e)
      ∙ get_behind (flat_map f (take i xs)) (f x ++ flat_map f (drop (suc i) xs)) j at n
      ∙ get_in_front (f x) (flat_map f (drop (suc i) xs)) j l

  pub in_two : (xs : List X) (i : ℕ) → flat_map f xs ≡ flat_map f (take i xs) ++ flat_map f (drop i xs)
  in_two xs i = ap (λ ys. flat_map f ys) (sym (take-append-drop i xs)) ∙ flat_map-append f (take i xs) (drop i xs)

dropped_at : {X : Type 0} (i : ℕ) (xs : List X) (k : ℕ) (x : X) → slice_get (drop i xs) k ≡ Some x → slice_get xs (i + k) ≡ Some x
dropped_at zero xs k x e = let same : 0 + k ≡ k = omega arith in ap (λ n. slice_get xs n) same ∙ e
dropped_at (suc i) [] k x e = cc
dropped_at (suc i) (y ∷ xs) k x e = let same : suc i + k ≡ suc (i + k) = omega arith in ap (λ n. slice_get (y ∷ xs) n) same
    ∙ dropped_at i xs k x e

-- ---- binary search among rows

module _ (p : Row → Bool) (rows : List Row) (at : ℕ) (bound : at ≤ length rows) (point : IsPartitionPoint (λ r. p r ≡ true)
    (λ r. p r ≡ false) rows at) where
  pub before_point : (k : ℕ) (r : Row) → k < at → slice_get rows k ≡ Some r → p r ≡ true
  before_point k r l h = let is : get_or rows k r ≡ r = get_or_from_slice_get rows k r r h in
      subst (λ (x : Row). p x ≡ true) is (point.0 k r (omega arith) l)

  pub behind_point : (k : ℕ) (r : Row) → at ≤ k → slice_get rows k ≡ Some r → p r ≡ false
  behind_point k r l h = let is : get_or rows k r ≡ r = get_or_from_slice_get rows k r r h in
      subst (λ (x : Row). p x ≡ false) is (point.1 k r l (slice_get_within rows k r h))

pub labels_parted : (rows : List Row) (label : ℕ) → HasRising rows → IsPartitionedBy (λ r. nat_lt r.label label) rows
labels_parted rows label rising i j d le l h = search (rules, cases_lt, slice_get-get_or, nat_lt)

pub row_from : (rows : List Row) (label at : ℕ) → at ≤ length rows → IsPartitionPoint (λ r. nat_lt r.label label ≡ true)
    (λ r. nat_lt r.label label ≡ false) rows at → IsRowFrom rows label at
row_from rows label at bound point = record {
  bound = bound;
  below = λ k r l h. let t = before_point (λ r. nat_lt r.label label) rows at bound point k r l h in grind arith;
  above = λ k r l h. let t = behind_point (λ r. nat_lt r.label label) rows at bound point k r l h in grind arith;
}

pub firsts_parted : (rows : List Row) (place : ℕ) → FirstsRise rows → IsPartitionedBy (λ r. nat_le r.first place) rows
firsts_parted rows place rise i j d le l h = search (rules, slice_get-get_or)

pub row_past : (rows : List Row) (place at : ℕ) → at ≤ length rows → IsPartitionPoint (λ r. nat_le r.first place ≡ true)
    (λ r. nat_le r.first place ≡ false) rows at → IsRowPast rows place at
row_past rows place at bound point = record {
  bound = bound;
  below = λ k r l h. let t = before_point (λ r. nat_le r.first place) rows at bound point k r l h in grind arith;
  above = λ k r l h. let t = behind_point (λ r. nat_le r.first place) rows at bound point k r l h in grind arith;
}

-- ---- the rows of a table

taken_rises : {X Y : Type 0} (f : X → List Y) (xs : List X) (i j : ℕ) → i ≤ j
    → length (flat_map f (take i xs)) ≤ length (flat_map f (take j xs))
taken_rises f xs zero j le = omega arith
taken_rises f [] (suc i) j le = omega arith
taken_rises f (x ∷ xs) (suc i) zero le = absurd (omega (arith, le))
taken_rises f (x ∷ xs) (suc i) (suc j) le =
    let ih = taken_rises f xs i j (omega (arith, le)) in
    let a = length-append (f x) (flat_map f (take i xs)) in let b = length-append (f x) (flat_map f (take j xs)) in omega arith

module _ (classes : List Class) (rows : List Row) where
  pub firsts_rise : HasPlaces classes rows → FirstsRise rows
  firsts_rise places = search (rules, taken_rises, slice_get)

  -- what stands at a place: nothing where no row begins so early, else what the row has there
  pub get_none : (place : ℕ) → HasPlaces classes rows → IsRowPast rows place 0 → slice_get (table_edges classes rows) place ≡ None
  get_none place places past = go rows refl
    where
      go : (rs : List Row) → rows ≡ rs → slice_get (table_edges classes rows) place ≡ None
      go [] e = ap (λ ys. slice_get (table_edges classes ys) place) e
      go (r ∷ rs) e =
          let here : slice_get rows 0 ≡ Some r = ap (λ ys. slice_get ys 0) e in
          let first : r.first ≡ 0 = places.first 0 r here in
          let later : place < r.first = past.above 0 r (omega arith) here in
          absurd (omega arith)

  pub get_row : (place i : ℕ) (r : Row) → HasPlaces classes rows → IsRowPast rows place (i + 1) → slice_get rows i ≡ Some r
      → slice_get (edges_of (slice_get classes r.class) r) (place - r.first) ≡ slice_get (table_edges classes rows) place
  get_row place i r places past e =
      let first = places.first i r e in
      let le : r.first ≤ place = past.below i r (omega arith) e in
      elim (cases_lt (place - r.first) (length (edges_of (slice_get classes r.class) r))) [
        | inl less ↦ sym (get_of (λ r. edges_of (slice_get classes r.class) r) rows i (place - r.first) place r e
            (omega arith) less)
        | inr ge ↦
            let more = one_more (λ r. edges_of (slice_get classes r.class) r) rows i r e in
            let bound = past.bound in
            let end : length (table_edges classes rows) ≤ place = elim (cases_lt (suc i) (length rows)) [
              | inl l ↦
                  let there = slice_get-get_or rows (suc i) r l in
                  let next = places.first (suc i) _ there in
                  let later : place < (get_or rows (suc i) r).first = past.above (suc i) _ (omega arith) there in
                  absurd (omega arith)
              | inr l ↦ search (rules, take_all)
            ] in
            slice_get_past (edges_of (slice_get classes r.class) r) (place - r.first) ge
            ∙ sym (slice_get_past (table_edges classes rows) place end)
      ]

  -- which edges there are
  pub in_table : (i : ℕ) (r : Row) (e : Edge) → slice_get rows i ≡ Some r → IsIn e (edges_of (slice_get classes r.class) r)
      → IsIn e (table_edges classes rows)
  in_table i r e there h = in_flat_map (λ r. edges_of (slice_get classes r.class) r) r e rows (in_place r rows i there) h

  pub from_table : (e : Edge) → IsIn e (table_edges classes rows) → (i : ℕ) × (r : Row) × (slice_get rows i ≡ Some r)
      × IsIn e (edges_of (slice_get classes r.class) r) × (r.label ≡ e.from)
  from_table e h =
      let p = from_flat_map (λ r. edges_of (slice_get classes r.class) r) e rows h in
      let there = place_of p.0 rows p.1 in
      (there.0, p.0, there.1, p.2, sym (of_label (slice_get classes p.0.class) p.0 e p.2))

  pub one_row : (i j : ℕ) (r s : Row) → HasRising rows → slice_get rows i ≡ Some r → slice_get rows j ≡ Some s
      → r.label ≡ s.label → r ≡ s
  one_row i j r s rising p q same = grind (arith, cases_lt, slice_get)

  pub has_of_row : (i : ℕ) (r : Row) (e : Edge) → HasRising rows → slice_get rows i ≡ Some r → r.label ≡ e.from
      → has (edges_of (slice_get classes r.class) r) e ≡ has (table_edges classes rows) e
  has_of_row i r e rising there label = one_truth _ _
      (λ h. has_in _ e (in_table i r e there (in_has _ e h)))
      (λ h. (
      let p = from_table e (in_has _ e h) in
      let same : p.1 ≡ r = one_row p.0 i p.1 r rising p.2 there (p.4 ∙ sym label) in
      has_in _ e (subst (λ (s : Row). IsIn e (edges_of (slice_get classes s.class) s)) same p.3)))

  pub lacks_row : (e : Edge) → NoRowOf rows e.from → has (table_edges classes rows) e ≡ false
  lacks_row e none = go (has (table_edges classes rows) e) refl
    where
      go : (b : Bool) → has (table_edges classes rows) e ≡ b → b ≡ false
      go true h = let p = from_table e (in_has _ e h) in absurd (none p.0 p.1 p.2 p.4)
      go false h = refl

  -- where the edges from a label on begin
  pub first_from : (label at : ℕ) → IsRowFrom rows label at
      → IsFirstFrom (table_edges classes rows) label (length (table_edges classes (take at rows)))
  first_from label at from =
      let two : table_edges classes rows ≡ table_edges classes (take at rows) ++ table_edges classes (drop at rows) =
      in_two (λ r. edges_of (slice_get classes r.class) r) rows at in
      let long : length (table_edges classes rows) ≡ length (table_edges classes (take at rows)) + length
      (table_edges classes (drop at rows)) =
      ap (λ (ys : List Edge). length ys) two ∙ length-append (table_edges classes (take at rows))
      (table_edges classes (drop at rows)) in
      record {
        bound = omega arith;
        below = λ k d less e. elim (split_get (table_edges classes (take at rows)) (table_edges classes (drop at rows)) k d
            (subst (λ ys. slice_get ys k ≡ Some d) two e)) [
              | inl h ↦ (
                  let p = from_flat_map (λ r. edges_of (slice_get classes r.class) r) d (take at rows) (in_place d _ k h) in
                  let there = place_of p.0 (take at rows) p.1 in
                  let t = taken_place at rows there.0 p.0 there.1 in
                  let same = of_label (slice_get classes p.0.class) p.0 d p.2 in
                  let low = from.below there.0 p.0 t.0 t.1 in omega arith)
              | inr h ↦ absurd (let n = h.1 in omega arith)
            ];
        above = λ k d le e. elim (split_get (table_edges classes (take at rows)) (table_edges classes (drop at rows)) k d
            (subst (λ ys. slice_get ys k ≡ Some d) two e)) [
              | inl h ↦ absurd (let w = slice_get_within (table_edges classes (take at rows)) k d h in omega arith)
              | inr h ↦ (
                  let p = from_flat_map (λ r. edges_of (slice_get classes r.class) r) d (drop at rows) (in_place d _ h.0 h.2) in
                  let there = place_of p.0 (drop at rows) p.1 in
                  let t = dropped_at at rows there.0 p.0 there.1 in
                  let same = of_label (slice_get classes p.0.class) p.0 d p.2 in
                  let high = from.above (at + there.0) p.0 (omega arith) t in omega arith)
            ];
      }

  pub place_from : (label at : ℕ) (r : Row) → HasPlaces classes rows → IsRowFrom rows label at → slice_get rows at ≡ Some r
      → IsFirstFrom (table_edges classes rows) label r.first
  place_from label at r places from e = subst (λ n. IsFirstFrom (table_edges classes rows) label n) (sym (places.first at r e))
      (first_from label at from)

  pub place_past : (label at : ℕ) → IsRowFrom rows label at → length rows ≤ at
      → IsFirstFrom (table_edges classes rows) label (length (table_edges classes rows))
  place_past label at from le = subst (λ ys. IsFirstFrom (table_edges classes rows) label (length (table_edges classes ys)))
      (take_all at rows le) (first_from label at from)

-- ---- classes

pair_of : Edge → Authority × ℕ
pair_of e = (e.authority, e.to)

unmapped : (l : ℕ) (pairs : List (Authority × ℕ)) → map pair_of (map (edge_to l) pairs) ≡ pairs
unfolding pair_of
unmapped l [] = refl
unmapped l (p ∷ pairs) = ap (λ ps. p ∷ ps) (unmapped l pairs)

same_pairs : (xs ys : List (Authority × ℕ)) → IsSorted (map (edge_to 0) xs) → IsSorted (map (edge_to 0) ys)
    → ((p : Authority × ℕ) → has (map (edge_to 0) xs) (edge_to 0 p) ≡ has (map (edge_to 0) ys) (edge_to 0 p)) → xs ≡ ys
same_pairs xs ys p q same =
    let one : map (edge_to 0) xs ≡ map (edge_to 0) ys = one_table (map (edge_to 0) xs) (map (edge_to 0) ys) p q
    (λ e. one_truth _ _ (there xs ys same e) (there ys xs (λ p. sym (same p)) e)) in
    sym (unmapped 0 xs) ∙ ap (λ es. map pair_of es) one ∙ unmapped 0 ys
  where
    there : (us vs : List (Authority × ℕ))
        → ((p : Authority × ℕ) → has (map (edge_to 0) us) (edge_to 0 p) ≡ has (map (edge_to 0) vs) (edge_to 0 p)) → (e : Edge)
        → has (map (edge_to 0) us) e ≡ true → has (map (edge_to 0) vs) e ≡ true
    there us vs same e h = search (rules, from_map, in_has, has_in, in_map)

is_reply_or_not : (a : Authority) → (a ≡ Reply) ⊎ (a ≢ Reply)
is_reply_or_not a = search (rules, eqb_tells, same_number)

-- no list of a class has a pair of Reply
no_reply : (c d : Class) → IsClass c → IsClass d → (q : Authority × ℕ) → q.0 ≡ Reply
    → has (map (edge_to 0) c.pairs.items) (edge_to 0 q) ≡ has (map (edge_to 0) d.pairs.items) (edge_to 0 q)
no_reply c d p q' q is = one_truth _ _
    (λ h. absurd (others c p (q.0, q.1) (in_pairs 0 c.pairs.items 0 q.0 q.1 (in_has _ _ h)) is))
    (λ h. absurd (others d q' (q.0, q.1) (in_pairs 0 d.pairs.items 0 q.0 q.1 (in_has _ _ h)) is))

some_number : (n l : ℕ) → 0 < n → ◌≡◌ {A = Option ℕ} (if n == 0 then None else Some l) (Some l)
some_number n l some = elim (eqb_tells n 0) [ inl t ↦ absurd (let e = t.1 in omega arith) | inr t ↦ rw t.0 refl ]

module _ (classes : List Class) (rows : List Row) (table : IsTable classes rows) where
  -- the edges other than Reply out of a row's label are those of its class
  pub has_pairs : (i : ℕ) (r : Row) (c : Class) (a : Authority) (x : ℕ) → slice_get rows i ≡ Some r
      → slice_get classes r.class ≡ Some c → a ≢ Reply
      → has (table_edges classes rows) (edge r.label a x) ≡ has (map (edge_to 0) c.pairs.items) (edge_to 0 (a, x))
  has_pairs i r c a x there class other =
      sym (has_of_row classes rows i r (edge r.label a x) table.rising there refl)
      ∙ ap (λ (o : Option Class). has (edges_of o r) (edge r.label a x)) class
      ∙ sym (has_pair c r (table.lists r.class c class) a x other)

  pub no_class : (label : ℕ) → NoRowOf rows label → IsClassOf (table_edges classes rows) label None
  no_class label none a x other h = let n : has (table_edges classes rows) (edge label a x) ≡ false =
      lacks_row classes rows (edge label a x) none in let z : true ≡ false = sym h ∙ n in cc

  pub no_pairs : (label : ℕ) (r : Row) (c : Class) → IsRowOf rows label r → slice_get classes r.class ≡ Some c
      → c.pairs.items ≡ [] → IsClassOf (table_edges classes rows) label None
  no_pairs label r c row class empty a x other h =
      let e : has (table_edges classes rows) (edge label a x) ≡ has (map (edge_to 0) c.pairs.items) (edge_to 0 (a, x)) =
      search (rules, has_pairs) in
      let n : has (map (edge_to 0) c.pairs.items) (edge_to 0 (a, x)) ≡ false = search (rules) in
      let z : true ≡ false = sym h ∙ e ∙ n in cc

  pub class_is : (label : ℕ) (r : Row) (c : Class) → IsRowOf rows label r → slice_get classes r.class ≡ Some c
      → 0 < length c.pairs.items → IsClassOf (table_edges classes rows) label (Some c.label)
  class_is label r c row class some =
      let is_class : IsClass c = table.lists r.class c class in
      let p : Authority × ℕ = get_or c.pairs.items 0 (Reply, 0) in
      let among : IsIn p c.pairs.items = in_place p c.pairs.items 0 (slice_get-get_or c.pairs.items 0 (Reply, 0) some) in
      let other : p.0 ≢ Reply = others c is_class p among in
      let out : (l i : ℕ) (s : Row) (d : Class) (a : Authority) (x : ℕ) → slice_get rows i ≡ Some s
      → slice_get classes s.class ≡ Some d → s.label ≡ l → a ≢ Reply
      → has (table_edges classes rows) (edge l a x) ≡ has (map (edge_to 0) d.pairs.items) (edge_to 0 (a, x)) =
      λ l i s d a x e k same o. subst (λ m. has (table_edges classes rows) (edge m a x) ≡ has (map (edge_to 0) d.pairs.items)
      (edge_to 0 (a, x))) same (has_pairs i s d a x e k o) in
      let here : Has (table_edges classes rows) label p.0 p.1 = out label row.0 r c p.0 p.1 row.1 class row.2 other
      ∙ has_in _ _ (in_map (edge_to 0) p c.pairs.items among) in
      record {
        some = (p.0, p.1, other, here);
        alike = λ a x o. (
            let least = table.numbered r.class c class in
            out label row.0 r c a x row.1 class row.2 o
            ∙ sym (out c.label least.0 least.1 c a x least.2 (ap (λ k. slice_get classes k) least.3 ∙ class) least.4 o));
        least = λ m alike. (
            let there : Has (table_edges classes rows) m p.0 p.1 = sym (alike p.0 p.1 other) ∙ here in
            let from = from_table classes rows (edge m p.0 p.1) (in_has _ _ there) in
            let s : Row = from.1 in
            let within = table.classed from.0 s from.2 in
            let d : Class = get_or classes s.class c in
            let class' : slice_get classes s.class ≡ Some d = slice_get-get_or classes s.class c within in
            let same : c.pairs.items ≡ d.pairs.items = same_pairs c.pairs.items d.pairs.items is_class.sorted
            (table.lists s.class d class').sorted (λ q.
            elim (is_reply_or_not q.0) [
              | inl is ↦ no_reply c d is_class (table.lists s.class d class') q is
              | inr o ↦ sym (out label row.0 r c q.0 q.1 row.1 class row.2 o) ∙ alike q.0 q.1 o ∙ out m from.0 s d q.0 q.1 from.2
                  class' from.4 o
            ]) in
            let one : r.class ≡ s.class = table.apart r.class s.class c d class class' same in
            let this : slice_get classes s.class ≡ Some c = subst (λ k. slice_get classes k ≡ Some c) one class in
            let low = table.least from.0 s c from.2 this in
            let f = from.4 in omega arith);
      }

  pub class_number : (label : ℕ) (r : Row) (c : Class) (n : Option ℕ) → IsRowOf rows label r → slice_get classes r.class ≡ Some c
      → n ≡ (if length c.pairs.items == 0 then None else Some c.label) → IsClassOf (table_edges classes rows) label n
  class_number label r c n row class is = go c.pairs.items refl
    where
      at_number : (m : Option ℕ) → n ≡ m → IsClassOf (table_edges classes rows) label m
          → IsClassOf (table_edges classes rows) label n
      at_number m e h = subst (λ (o : Option ℕ). IsClassOf (table_edges classes rows) label o) (sym e) h

      go : (ps : List (Authority × ℕ)) → c.pairs.items ≡ ps → IsClassOf (table_edges classes rows) label n
      go [] e = at_number None (is ∙ ap (λ (ps : List (Authority × ℕ)). if length ps == 0 then None else Some c.label) e)
          (no_pairs label r c row class e)
      go (p ∷ ps) e =
          let long : length c.pairs.items ≡ length ps + 1 = ap (λ (qs : List (Authority × ℕ)). length qs) e ∙ omega arith in
          at_number (Some c.label) (is ∙ some_number (length c.pairs.items) c.label (omega arith))
          (class_is label r c row class (omega arith))

-- ---- what code has read of them

pub at_past : (read rows : List Row) (place past : ℕ) (r : Row) → read ≡ rows → IsRowPast read place past → (past ≡ 0 → ⊥)
    → r ≡ get_or rows (past - 1) r
    → (slice_get rows (past - 1) ≡ Some r) × IsRowPast rows place (past - 1 + 1)
at_past read rows place past r same is_past some e = grind (arith, cases_lt, slice_get_read)

pub row_in : (read rows : List Row) (label : ℕ) (r : Row) → read ≡ rows → IsRowOf read label r → IsRowOf rows label r
row_in read rows label r same row = (row.0, subst (λ (rs : List Row). slice_get rs row.0 ≡ Some r) same row.1, row.2)

pub none_in : (read rows : List Row) (label : ℕ) → read ≡ rows → NoRowOf read label → NoRowOf rows label
none_in read rows label same none = subst (λ (rs : List Row). NoRowOf rs label) same none

pub class_there : (classes : List Class) (rows : List Row) → IsTable classes rows → (i : ℕ) (r : Row) (c : Class)
    → slice_get rows i ≡ Some r → c ≡ get_or classes r.class c → slice_get classes r.class ≡ Some c
class_there classes rows table i r c there e = slice_get_read classes (length classes) r.class c refl (table.classed i r there) e
