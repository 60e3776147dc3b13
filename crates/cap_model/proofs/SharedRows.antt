-- A table in which several labels have the edges of the same pairs.
use Rattle.cap_model.proofs.Common.{All, AllPairs, AreShared, Authority, Before, Class, Edge, IsClass, IsIn, IsPartitionPoint, IsPartitionedBy, IsSorted, IsTable, List, PairBefore, Reply, Row, Some, [], ap, arith, cases_lt, drop, edge_to, edges_of}
use Rattle.cap_model.proofs.Common.{false, flat_map, from_flat_map, from_map, get_or, get_or_from_slice_get, in_place, inl, inr, length, length-append, length-map, map, map-append, map_some, nat_lt, number_of, place_of, refl, reply_to, shared_edges}
use Rattle.cap_model.proofs.Common.{rules, single, slice_get, slice_get-get_or, slice_get-map, slice_get_within, split_get, subst, suc, sym, table_edges, take, take-append-drop, take_all, true, zero, ℕ, ◌*◌, ◌++◌, ◌<◌, ◌∙◌, ◌∷◌, ◌≡◌, ◌≢◌, ◌≤◌}
use Rattle.std.proofs.Math.Nat.{suc-mul}
use Rattle.cap_model.proofs.EdgeOrder.{same_number}
use Rattle.cam_base.proofs.NumberedLists.{at_place as row_at}

-- ---- pairs in order

at_two : {X : Type 0} (R : X → X → Type 0) (xs : List X) (i j : ℕ) (x y : X) → AllPairs R xs → i < j → slice_get xs i ≡ Some x
    → slice_get xs j ≡ Some y → R x y
at_two R xs i j x y all less p q = search (rules, get_or_from_slice_get, slice_get_within)

at_one : {X : Type 0} (P : X → Type 0) (xs : List X) (i : ℕ) (x : X) → All P xs → slice_get xs i ≡ Some x → P x
at_one P xs i x all p = subst P (get_or_from_slice_get xs i x x p) (all i x (slice_get_within xs i x p))

pub pairs_sorted : (l : ℕ) (pairs : List (Authority × ℕ)) → AllPairs PairBefore pairs → IsSorted (map (edge_to l) pairs)
pairs_sorted l pairs rise = record {
  by_place = λ i j d e less p q. (
      let a = map_some (edge_to l) (slice_get pairs i) d (sym (slice_get-map (edge_to l) pairs i) ∙ p) in
      let b = map_some (edge_to l) (slice_get pairs j) e (sym (slice_get-map (edge_to l) pairs j) ∙ q) in
      let before : PairBefore a.0 b.0 = at_two PairBefore pairs i j a.0 b.0 rise less a.1 b.1 in
      let over : Before (edge_to l a.0) (edge_to l b.0) = search (rules) in
      subst (λ (x : Edge). Before x e) a.2 (subst (λ (y : Edge). Before (edge_to l a.0) y) b.2 over));
}

pub pairs_parted : (pairs : List (Authority × ℕ)) → AllPairs PairBefore pairs
    → IsPartitionedBy (λ p. nat_lt (number_of p.0) 9) pairs
pairs_parted pairs rise i j d le l h = elim (cases_lt i j) [
  | inl less ↦ (let before : PairBefore (get_or pairs i d) (get_or pairs j d) = rise i j d less l in
      let up = before.by_authority in grind arith)
  | inr ge ↦ let same : j ≡ i = omega arith in subst (λ k. nat_lt (number_of (get_or pairs k d).0) 9 ≡ true) same h
]

pub pairs_class : (c : Class) (pairs : List (Authority × ℕ)) → c.pairs.items ≡ pairs → AllPairs PairBefore pairs
    → All (λ (p : Authority × ℕ). p.0 ≢ Reply) pairs → c.before ≤ length pairs
    → IsPartitionPoint (λ (p : Authority × ℕ). nat_lt (number_of p.0) 9 ≡ true)
    (λ (p : Authority × ℕ). nat_lt (number_of p.0) 9 ≡ false) pairs c.before → IsClass c
pairs_class c pairs same rise others bound point = record {
  within = (let long = ap (λ (ps : List (Authority × ℕ)). length ps) same in omega arith);
  sorted = subst (λ ps. IsSorted (map (edge_to 0) ps)) (sym same) (pairs_sorted 0 pairs rise);
  front = λ i p l e. (
      let is = get_or_from_slice_get pairs i p p (there i p e) in
      let h : nat_lt (number_of p.0) 9 ≡ true = subst (λ (q : Authority × ℕ). nat_lt (number_of q.0) 9 ≡ true) is
      (point.0 i p (omega arith) l) in grind arith);
  back = λ i p l e. (
      let is = get_or_from_slice_get pairs i p p (there i p e) in
      let h : nat_lt (number_of p.0) 9 ≡ false = subst (λ (q : Authority × ℕ). nat_lt (number_of q.0) 9 ≡ false) is
      (point.1 i p l (slice_get_within pairs i p (there i p e))) in
      let least : 9 ≤ number_of p.0 = grind arith in
      let other : p.0 ≢ Reply = at_one (λ (q : Authority × ℕ). q.0 ≢ Reply) pairs i p others (there i p e) in
      elim (cases_lt 9 (number_of p.0)) [ inl more ↦ more | inr le ↦ absurd (other (same_number p.0 Reply (omega arith))) ]);
}
  where
    there : (i : ℕ) (p : Authority × ℕ) → slice_get c.pairs.items i ≡ Some p → slice_get pairs i ≡ Some p
    there i p e = subst (λ ps. slice_get ps i ≡ Some p) same e

-- ---- the same pairs for each label

sorted_both : (xs ys : List Edge) → IsSorted xs → IsSorted ys → ((d e : Edge) → IsIn d xs → IsIn e ys → Before d e)
    → IsSorted (xs ++ ys)
sorted_both xs ys s t cross = record {
  by_place = λ i j d e less p q. elim (split_get xs ys i d p) [
    | inl f ↦ elim (split_get xs ys j e q) [
      | inl g ↦ s.by_place i j d e less f g
      | inr g ↦ cross d e (in_place d xs i f) (in_place e ys g.0 g.2)
    ]
    | inr f ↦ elim (split_get xs ys j e q) [
      | inl g ↦ absurd (let w = slice_get_within xs j e g in let m = f.1 in omega arith)
      | inr g ↦ t.by_place f.0 g.0 d e (let a = f.1 in let b = g.1 in omega arith) f.2 g.2
    ]
  ];
}

pub shared_sorted : (labels : List ℕ) (pairs : List (Authority × ℕ)) → AllPairs ◌<◌ labels → AllPairs PairBefore pairs
    → IsSorted (shared_edges labels pairs)
shared_sorted [] pairs up rise = record { by_place = λ i j d e less p q. cc }
shared_sorted (l ∷ labels) pairs up rise = sorted_both (map (edge_to l) pairs) (shared_edges labels pairs)
    (pairs_sorted l pairs rise)
    (shared_sorted labels pairs (λ i j d less within. up (suc i) (suc j) d (omega arith) (omega arith)) rise)
    (λ d e i j. (
    let a = from_map (edge_to l) d pairs i in
    let b = from_flat_map (λ m. map (edge_to m) pairs) e labels j in
    let k = from_map (edge_to b.0) e pairs b.2 in
    let place = place_of b.0 labels b.1 in
    let less : l < b.0 = at_two ◌<◌ (l ∷ labels) 0 (suc place.0) l b.0 up (omega arith) refl place.1 in
    let f : l ≡ d.from = ap (λ (x : Edge). x.from) a.2 in
    let g : b.0 ≡ e.from = ap (λ (x : Edge). x.from) k.2 in
    record { by_from = omega arith; by_authority = λ h. absurd (omega arith); by_to = λ h n. absurd (omega arith) }))

same_flat : (f : Row → List Edge) (g : ℕ → List Edge) (rows : List Row) (labels : List ℕ) → length rows ≡ length labels
    → ((i : ℕ) (r : Row) (l : ℕ) → slice_get rows i ≡ Some r → slice_get labels i ≡ Some l → f r ≡ g l)
    → flat_map f rows ≡ flat_map g labels
same_flat f g [] [] long same = refl
same_flat f g [] (l ∷ labels) long same = absurd (omega (arith, long))
same_flat f g (r ∷ rows) [] long same = absurd (omega (arith, long))
same_flat f g (r ∷ rows) (l ∷ labels) long same =
    ap (λ es. es ++ flat_map f rows) (same 0 r l refl refl)
    ∙ ap (λ es. g l ++ es) (same_flat f g rows labels (omega (arith, long)) (λ i r l p q. same (suc i) r l p q))

even_long : (f : Row → List Edge) (count : ℕ) (rows : List Row) (i : ℕ) → i ≤ length rows
    → ((k : ℕ) (r : Row) → slice_get rows k ≡ Some r → length (f r) ≡ count) → length (flat_map f (take i rows)) ≡ i * count
even_long f count rows zero le same = omega arith
even_long f count [] (suc i) le same = absurd (omega (arith, le))
even_long f count (r ∷ rows) (suc i) le same =
    let ih : length (flat_map f (take i rows)) ≡ i * count = even_long f count rows i (omega (arith, le))
    (λ k s e. same (suc k) s e) in
    let here = same 0 r refl in
    let long = length-append (f r) (flat_map f (take i rows)) in
    let more = suc-mul i count in
    omega arith

module _ (labels : List ℕ) (pairs : List (Authority × ℕ)) (rows : List Row) (c : Class) (up : AllPairs ◌<◌ labels)
    (rise : AllPairs PairBefore pairs)
    (shared : AreShared labels (length pairs) rows) (same : c.pairs.items ≡ pairs) (is_class : IsClass c)
    (some : 0 < length labels) (least : c.label ≡ get_or labels 0 0) where
  of_row : (i : ℕ) (r : Row) (l : ℕ) → slice_get rows i ≡ Some r → slice_get labels i ≡ Some l
      → edges_of (slice_get (c ∷ []) r.class) r ≡ map (edge_to l) pairs
  of_row i r l p q =
      let label : r.label ≡ l = (let t = shared.label i r p in let e : Some r.label ≡ Some l = sym t ∙ q in cc) in
      ap (λ k. edges_of (slice_get (c ∷ []) k) r) (shared.class i r p)
      ∙ ap (λ ms. map (edge_to r.label) (take c.before c.pairs.items)
      ++ (map (reply_to r.label) ms ++ map (edge_to r.label) (drop c.before c.pairs.items))) (shared.replies i r p)
      ∙ sym (map-append (edge_to r.label) (take c.before c.pairs.items) (drop c.before c.pairs.items))
      ∙ ap (λ ps. map (edge_to r.label) ps) (take-append-drop c.before c.pairs.items ∙ same)
      ∙ ap (λ m. map (edge_to m) pairs) label

  label_at : (i : ℕ) (r : Row) → slice_get rows i ≡ Some r → (l : ℕ) × (slice_get labels i ≡ Some l) × (l ≡ r.label)
  label_at i r p = (r.label, shared.label i r p, refl)

  pub edges_shared : table_edges (c ∷ []) rows ≡ shared_edges labels pairs
  edges_shared = same_flat (λ r. edges_of (slice_get (c ∷ []) r.class) r) (λ l. map (edge_to l) pairs) rows labels
      shared.long of_row

  zeroth : (k : ℕ) (d : Class) → slice_get (c ∷ []) k ≡ Some d → (k ≡ 0) × (c ≡ d)
  zeroth k d e = single c d k e

  first_label : slice_get labels 0 ≡ Some (get_or labels 0 0)
  first_label = slice_get-get_or labels 0 0 some

  pub table_shared : IsTable (c ∷ []) rows
  table_shared = record {
    sorted = subst IsSorted (sym edges_shared) (shared_sorted labels pairs up rise);
    rising = record {
      by_place = λ i j r s less p q. at_two ◌<◌ labels i j r.label s.label up less (shared.label i r p)
          (shared.label j s q);
    };
    places = record {
      first = λ i r p. (
          let w = slice_get_within rows i r p in
          shared.first i r p ∙ sym (even_long (λ r. edges_of (slice_get (c ∷ []) r.class) r) (length pairs) rows i (omega arith)
          (λ k s e. ap (λ (es : List Edge). length es) (of_row k s s.label e (shared.label k s e))
          ∙ length-map pairs (edge_to s.label))));
    };
    classed = λ i r p. (let z = shared.class i r p in omega arith);
    least = λ i r d p q. (
        let z = shared.class i r p in
        let one : c ≡ d = (zeroth r.class d q).1 in
        let at = shared.label i r p in
        let low : get_or labels 0 0 ≤ r.label = elim (cases_lt 0 i) [
          | inl l ↦ (let less : get_or labels 0 0 < r.label = at_two ◌<◌ labels 0 i (get_or labels 0 0) r.label up l first_label
              at in omega arith)
          | inr le ↦ search (rules, first_label, slice_get)
        ] in
        subst (λ (x : Class). x.label ≤ r.label) one (omega arith));
    replies = λ i r p. subst (λ ms. IsSorted (map (reply_to 0) ms)) (sym (shared.replies i r p))
        (record { by_place = λ i j d e less p q. cc });
    lists = λ k d p. subst (λ (x : Class). IsClass x) (zeroth k d p).1 is_class;
    numbered = λ k d p. (
        let at = zeroth k d p in
        let first = row_at rows 0 (let long = shared.long in omega arith) in
        let e : Some first.0.label ≡ Some (get_or labels 0 0) = sym (shared.label 0 first.0 first.1) ∙ first_label in
        let t : first.0.label ≡ get_or labels 0 0 = cc in
        (0, first.0, first.1, shared.class 0 first.0 first.1 ∙ sym at.0, t ∙ sym least ∙ ap (λ (x : Class). x.label) at.1));
    apart = λ j k d e p q s. (zeroth j d p).0 ∙ sym (zeroth k e q).0;
  }

  pub shared_long : length labels * length pairs ≡ length (table_edges (c ∷ []) rows)
  shared_long =
      let long = shared.long in
      sym (ap (λ (rs : List Row). length (table_edges (c ∷ []) rs)) (sym (take_all (length labels) rows (omega arith)))
      ∙ even_long (λ r. edges_of (slice_get (c ∷ []) r.class) r) (length pairs) rows (length labels) (omega arith)
      (λ k s e. ap (λ (es : List Edge). length es) (of_row k s s.label e (shared.label k s e))
      ∙ length-map pairs (edge_to s.label)))
