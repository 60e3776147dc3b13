-- The edges out of one label, in order, as pairs before and behind Reply and as replies.
use Rattle.cap_model.proofs.Common.{AtMost, Authority, Class, Edge, IsClass, IsPartitionPoint, IsPartitionedBy, IsRun, IsSorted, List, Reply, Row, Some, [], ap, arith, cases_lt, drop, drop-append_seam, edge_to, edges_of, false, get_behind}
use Rattle.cap_model.proofs.Common.{get_drop, get_front, get_or, get_or_from_slice_get, inl, inr, length, length-append, length-drop, length-map, length-take-le, map, map-append, map_some, nat_le, nat_lt, number_of, pair_of, refl, reply_to}
use Rattle.cap_model.proofs.Common.{rules, slice_get, slice_get-get_or, slice_get-map, slice_get_within, split_get, subst, suc, sym, take, take-append-drop, take-append_seam, take_all, true, zero, ℕ, ◌++◌, ◌+◌, ◌-◌, ◌<◌, ◌∙◌, ◌∷◌, ◌≡◌, ◌≤◌, ◌⊎◌}
use Rattle.cap_model.proofs.EdgeOrder.{edges_same, same_number}
use Rattle.cap_model.proofs.TableMembers.{later_at_most}

-- ---- lists in order

pub sorted_front : (xs ys : List Edge) → IsSorted (xs ++ ys) → IsSorted xs
sorted_front xs ys s = record { by_place = λ i j d e l p q. s.by_place i j d e l (get_front xs ys i d p) (get_front xs ys j e q) }

pub sorted_back : (xs ys : List Edge) → IsSorted (xs ++ ys) → IsSorted ys
sorted_back xs ys s = record {
  by_place = λ i j d e l p q. s.by_place (length xs + i) (length xs + j) d e (omega arith)
      (get_behind xs ys i (length xs + i) refl ∙ p) (get_behind xs ys j (length xs + j) refl ∙ q);
}

sorted_ends : (xs ys zs : List Edge) → IsSorted (xs ++ (ys ++ zs)) → IsSorted (xs ++ zs)
sorted_ends xs ys zs s = record {
  by_place = λ i j d e l p q. elim (split_get xs zs i d p) [
    | inl f ↦ elim (split_get xs zs j e q) [
      | inl g ↦ s.by_place i j d e l (get_front xs (ys ++ zs) i d f) (get_front xs (ys ++ zs) j e g)
      | inr g ↦ (
          let w = slice_get_within xs i d f in
          let n : ℕ = length ys + g.0 in
          s.by_place i (length xs + n) d e (omega arith) (get_front xs (ys ++ zs) i d f)
          (get_behind xs (ys ++ zs) n (length xs + n) refl ∙ get_behind ys zs g.0 n refl ∙ g.2))
    ]
    | inr f ↦ elim (split_get xs zs j e q) [
      | inl g ↦ absurd (let w = slice_get_within xs j e g in let m = f.1 in omega arith)
      | inr g ↦ (
          let a = f.1 in let b = g.1 in
          let m : ℕ = length ys + f.0 in
          let n : ℕ = length ys + g.0 in
          s.by_place (length xs + m) (length xs + n) d e (omega arith)
          (get_behind xs (ys ++ zs) m (length xs + m) refl ∙ get_behind ys zs f.0 m refl ∙ f.2)
          (get_behind xs (ys ++ zs) n (length xs + n) refl ∙ get_behind ys zs g.0 n refl ∙ g.2))
    ]
  ];
}

-- a label in place of all that the edges go out of
moved : (l n : ℕ) (xs : List Edge) → IsSorted xs → ((i : ℕ) (e : Edge) → slice_get xs i ≡ Some e → e.from ≡ n)
    → IsSorted (map (edge_to l) (map pair_of xs))
moved l n xs s from = search (rules, slice_get, map_some, slice_get-map)

edges_back : (l : ℕ) (xs : List Edge) → ((i : ℕ) (e : Edge) → slice_get xs i ≡ Some e → e.from ≡ l)
    → map (edge_to l) (map pair_of xs) ≡ xs
edges_back l [] from = refl
edges_back l (x ∷ xs) from =
    let same : edge_to l (pair_of x) ≡ x = edges_same _ _ (sym (from 0 x refl)) refl refl in
    ap (λ z. z ∷ map (edge_to l) (map pair_of xs)) same ∙ ap (λ zs. x ∷ zs) (edges_back l xs (λ i e p. from (suc i) e p))

replies_back : (l : ℕ) (xs : List Edge) → ((i : ℕ) (e : Edge) → slice_get xs i ≡ Some e → (e.from ≡ l) × (e.authority ≡ Reply))
    → map (reply_to l) (map (λ (e : Edge). e.to) xs) ≡ xs
replies_back l [] all = refl
replies_back l (x ∷ xs) all =
    let h = all 0 x refl in
    let same : reply_to l x.to ≡ x = edges_same _ _ (sym h.0) (sym h.1) refl in
    ap (λ z. z ∷ map (reply_to l) (map (λ (e : Edge). e.to) xs)) same
    ∙ ap (λ zs. x ∷ zs) (replies_back l xs (λ i e p. all (suc i) e p))

-- ---- one run

module _ (label : ℕ) (run : List Edge) (xs ys zs : List Edge) (is_run : IsRun label run) (parts : run ≡ xs ++ (ys ++ zs))
    (front : (i : ℕ) (e : Edge) → slice_get xs i ≡ Some e → number_of e.authority < 9)
    (middle : (i : ℕ) (e : Edge) → slice_get ys i ≡ Some e → number_of e.authority ≡ 9)
    (back : (i : ℕ) (e : Edge) → slice_get zs i ≡ Some e → 9 < number_of e.authority) where
  from_xs : (i : ℕ) (e : Edge) → slice_get xs i ≡ Some e → e.from ≡ label
  from_xs i e p = is_run.from i e (ap (λ es. slice_get es i) parts ∙ get_front xs (ys ++ zs) i e p)

  from_ys : (i : ℕ) (e : Edge) → slice_get ys i ≡ Some e → e.from ≡ label
  from_ys i e p = is_run.from (length xs + i) e (ap (λ es. slice_get es (length xs + i)) parts ∙ get_behind xs (ys ++ zs) i
      (length xs + i) refl ∙ get_front ys zs i e p)

  from_zs : (i : ℕ) (e : Edge) → slice_get zs i ≡ Some e → e.from ≡ label
  from_zs i e p =
      let n : ℕ = length ys + i in
      is_run.from (length xs + n) e (ap (λ es. slice_get es (length xs + n)) parts ∙ get_behind xs (ys ++ zs) n (length xs + n)
      refl ∙ get_behind ys zs i n refl ∙ p)

  sorted_parts : IsSorted (xs ++ (ys ++ zs))
  sorted_parts = subst IsSorted parts is_run.sorted

  from_ends : (i : ℕ) (e : Edge) → slice_get (xs ++ zs) i ≡ Some e → e.from ≡ label
  from_ends i e p = elim (split_get xs zs i e p) [ inl h ↦ from_xs i e h | inr h ↦ from_zs h.0 e h.2 ]

  pub run_class : (c : Class) → c.pairs.items ≡ map pair_of xs ++ map pair_of zs → c.before ≡ length xs → IsClass c
  run_class c pairs before = record {
    within = (let a = ap (λ (ps : List (Authority × ℕ)). length ps) pairs in
        let b = length-append (map pair_of xs) (map pair_of zs) in let d = length-map xs pair_of in omega arith);
    sorted = subst (λ ps. IsSorted (map (edge_to 0) ps)) (map-append pair_of xs zs ∙ sym pairs)
        (moved 0 label (xs ++ zs) (sorted_ends xs ys zs sorted_parts) from_ends);
    front = λ i p l e. elim (at i p e) [
      | inl h ↦ (let less = front i h.0 h.1 in let same : number_of h.0.authority ≡ number_of p.0 = ap
          (λ (q : Authority × ℕ). number_of q.0) h.2 in omega arith)
      | inr h ↦ absurd (let n = h.1 in omega arith)
    ];
    back = λ i p l e. elim (at i p e) [
      | inl h ↦ absurd (let w = slice_get_within xs i h.0 h.1 in omega arith)
      | inr h ↦ (let more = back h.0 h.2 h.3 in let same : number_of h.2.authority ≡ number_of p.0 = ap
          (λ (q : Authority × ℕ). number_of q.0) h.4 in omega arith)
    ];
  }
    where
      at : (i : ℕ) (p : Authority × ℕ) → slice_get c.pairs.items i ≡ Some p
          → ((e : Edge) × (slice_get xs i ≡ Some e) × (pair_of e ≡ p)) ⊎ ((n : ℕ) × (i ≡ length xs + n) × (e : Edge)
          × (slice_get zs n ≡ Some e) × (pair_of e ≡ p))
      at i p e = grind (arith, split_get, slice_get, map_some, slice_get-map, length-map)

  pub run_edges : (c : Class) (r : Row) → c.pairs.items ≡ map pair_of xs ++ map pair_of zs → c.before ≡ length xs
      → r.label ≡ label → r.replies.items ≡ map (λ (e : Edge). e.to) ys → edges_of (Some c) r ≡ run
  run_edges c r pairs before label_is replies =
      let long : c.before ≡ length (map pair_of xs) = before ∙ sym (length-map xs pair_of) in
      let taken : take c.before c.pairs.items ≡ map pair_of xs = search (rules, take-append_seam) in
      let dropped : drop c.before c.pairs.items ≡ map pair_of zs = search (rules, drop-append_seam) in
      search (rules, edges_back, from_xs, replies_back, from_ys, same_number, middle, from_zs, parts)

  pub run_replies : (ms : List ℕ) → ms ≡ map (λ (e : Edge). e.to) ys → IsSorted (map (reply_to 0) ms)
  run_replies ms same =
      let sorted : IsSorted ys = sorted_front ys zs (sorted_back xs (ys ++ zs) sorted_parts) in
      let zeros : IsSorted (map (edge_to 0) (map pair_of ys)) = moved 0 label ys sorted from_ys in
      subst IsSorted (as_replies ys middle ∙ ap (λ ns. map (reply_to 0) ns) (sym same)) zeros
    where
      as_replies : (es : List Edge) → ((i : ℕ) (e : Edge) → slice_get es i ≡ Some e → number_of e.authority ≡ 9)
          → map (edge_to 0) (map pair_of es) ≡ map (reply_to 0) (map (λ (e : Edge). e.to) es)
      as_replies [] h = refl
      as_replies (e ∷ es) h =
          let same : edge_to 0 (pair_of e) ≡ reply_to 0 e.to =
          edges_same _ _ refl (same_number e.authority Reply (h 0 e refl)) refl in
          ap (λ z. z ∷ map (edge_to 0) (map pair_of es)) same ∙ ap (λ zs. reply_to 0 e.to ∷ zs)
          (as_replies es (λ i d p. h (suc i) d p))

-- ---- where a run is parted

-- all behind a place
pub whole : {X : Type 0} (xs : List X) (a : ℕ) → take (length xs - a) (drop a xs) ≡ drop a xs
whole xs a = let long = length-drop a xs in take_all (length xs - a) (drop a xs) (omega arith)

pub run_rest : (label : ℕ) (run : List Edge) (n : ℕ) → IsRun label run → IsRun label (drop n run)
run_rest label run n r = search (rules, sorted_back, take-append-drop, get_drop)

numbers_rise : (label : ℕ) (run : List Edge) → IsRun label run → (i j : ℕ) (d : Edge) → i ≤ j → j < length run
    → number_of (get_or run i d).authority ≤ number_of (get_or run j d).authority
numbers_rise label run r i j d le l = grind (arith, slice_get-get_or, later_at_most)

pub run_parted_lt : (label : ℕ) (run : List Edge) (n : ℕ) → IsRun label run
    → IsPartitionedBy (λ e. nat_lt (number_of e.authority) n) run
run_parted_lt label run n r i j d le l h = let up = numbers_rise label run r i j d le l in grind arith

pub run_parted_le : (label : ℕ) (run : List Edge) (n : ℕ) → IsRun label run
    → IsPartitionedBy (λ e. nat_le (number_of e.authority) n) run
run_parted_le label run n r i j d le l h = let up = numbers_rise label run r i j d le l in grind arith

pub taken_place : {X : Type 0} (i : ℕ) (xs : List X) (k : ℕ) (x : X) → slice_get (take i xs) k ≡ Some x
    → (k < i) × (slice_get xs k ≡ Some x)
taken_place zero xs k x e = cc
taken_place (suc i) [] k x e = cc
taken_place (suc i) (y ∷ xs) zero x e = (omega arith, e)
taken_place (suc i) (y ∷ xs) (suc k) x e = let r = taken_place i xs k x e in (omega (arith, r.0), r.1)

module _ (label : ℕ) (run : List Edge) (before n : ℕ) (is_run : IsRun label run) (bound : before ≤ length run)
    (point : IsPartitionPoint (λ (e : Edge). nat_lt (number_of e.authority) 9 ≡ true)
    (λ (e : Edge). nat_lt (number_of e.authority) 9 ≡ false) run before)
    (again : IsPartitionPoint (λ (e : Edge). nat_le (number_of e.authority) 9 ≡ true)
    (λ (e : Edge). nat_le (number_of e.authority) 9 ≡ false) (drop before run) n) where
  lt_at : (i : ℕ) (e : Edge) → i < before → slice_get run i ≡ Some e → number_of e.authority < 9
  lt_at i e l p = let is = get_or_from_slice_get run i e e p in let h : nat_lt (number_of e.authority) 9 ≡ true =
      subst (λ (x : Edge). nat_lt (number_of x.authority) 9 ≡ true) is (point.0 i e (omega arith) l) in grind arith

  ge_at : (i : ℕ) (e : Edge) → before ≤ i → slice_get run i ≡ Some e → 9 ≤ number_of e.authority
  ge_at i e l p = let is = get_or_from_slice_get run i e e p in let h : nat_lt (number_of e.authority) 9 ≡ false =
      subst (λ (x : Edge). nat_lt (number_of x.authority) 9 ≡ false) is (point.1 i e l (slice_get_within run i e p)) in
      grind arith

  le_at : (i : ℕ) (e : Edge) → i < n → slice_get (drop before run) i ≡ Some e → number_of e.authority ≤ 9
  le_at i e l p = let is = get_or_from_slice_get (drop before run) i e e p in let h : nat_le (number_of e.authority) 9 ≡ true =
      subst (λ (x : Edge). nat_le (number_of x.authority) 9 ≡ true) is (again.0 i e (omega arith) l) in grind arith

  gt_at : (i : ℕ) (e : Edge) → n ≤ i → slice_get (drop before run) i ≡ Some e → 9 < number_of e.authority
  gt_at i e l p = grind (arith, get_or_from_slice_get, nat_le, slice_get_within)

  parts : run ≡ take before run ++ (take n (drop before run) ++ drop n (drop before run))
  parts = sym (ap (λ es. take before run ++ es) (take-append-drop n (drop before run)) ∙ take-append-drop before run)

  front : (i : ℕ) (e : Edge) → slice_get (take before run) i ≡ Some e → number_of e.authority < 9
  front i e p = let t = taken_place before run i e p in lt_at i e t.0 t.1

  middle : (i : ℕ) (e : Edge) → slice_get (take n (drop before run)) i ≡ Some e → number_of e.authority ≡ 9
  middle i e p = grind (arith, taken_place, le_at, ge_at, get_drop)

  back : (i : ℕ) (e : Edge) → slice_get (drop n (drop before run)) i ≡ Some e → 9 < number_of e.authority
  back i e p = gt_at (n + i) e (omega arith) (sym (get_drop (drop before run) n i) ∙ p)

  pub parted_class : (c : Class) → c.pairs.items ≡ map pair_of (take before run) ++ map pair_of (drop n (drop before run))
      → c.before ≡ before → IsClass c
  parted_class c pairs is = run_class label run (take before run) (take n (drop before run)) (drop n (drop before run)) is_run
      parts front middle back c pairs (is ∙ sym (length-take-le before run bound))

  pub parted_edges : (c : Class) (r : Row) → c.pairs.items ≡ map pair_of (take before run)
      ++ map pair_of (drop n (drop before run)) → c.before ≡ before → r.label ≡ label
      → r.replies.items ≡ map (λ (e : Edge). e.to) (take n (drop before run)) → edges_of (Some c) r ≡ run
  parted_edges c r pairs is label_is replies = search (rules, run_edges, parts, front, middle, back, length-take-le)

  pub parted_replies : (ms : List ℕ) → ms ≡ map (λ (e : Edge). e.to) (take n (drop before run)) → IsSorted (map (reply_to 0) ms)
  parted_replies ms same = run_replies label run (take before run) (take n (drop before run)) (drop n (drop before run)) is_run
      parts front middle back ms same

-- ---- the next run of edges in order

take_both : {X : Type 0} (a n : ℕ) (xs : List X) → take (a + n) xs ≡ take a xs ++ take n (drop a xs)
take_both zero n xs = let same : 0 + n ≡ n = omega arith in ap (λ k. take k xs) same
take_both (suc a) zero [] = let same : suc a + 0 ≡ suc a = omega arith in ap (λ k. take k []) same
take_both (suc a) (suc n) [] = let same : suc a + suc n ≡ suc (a + suc n) = omega arith in ap (λ k. take k []) same
take_both (suc a) n (x ∷ xs) = let same : suc a + n ≡ suc (a + n) = omega arith in ap (λ k. take k (x ∷ xs)) same
    ∙ ap (λ ys. x ∷ ys) (take_both a n xs)

pub froms_parted : (edges : List Edge) (at label : ℕ) → IsSorted edges
    → IsPartitionedBy (λ e. nat_le e.from label) (drop at edges)
froms_parted edges at label sorted i j d le l h =
    let rest : IsSorted (drop at edges) = sorted_back (take at edges) (drop at edges)
    (subst IsSorted (sym (take-append-drop at edges)) sorted) in
    let most : AtMost (get_or (drop at edges) i d) (get_or (drop at edges) j d) = later_at_most (drop at edges) i j _ _ rest le
    (slice_get-get_or (drop at edges) i d (omega arith)) (slice_get-get_or (drop at edges) j d l) in
    let from = most.by_from in
    grind arith

module _ (edges : List Edge) (at n : ℕ) (d : Edge) (sorted : IsSorted edges) (here : slice_get edges at ≡ Some d)
    (point : IsPartitionPoint (λ (e : Edge). nat_le e.from d.from ≡ true) (λ (e : Edge). nat_le e.from d.from ≡ false)
    (drop at edges) n) where
  pub next_run : IsRun d.from (take n (drop at edges))
  next_run = record {
    sorted = sorted_front (take n (drop at edges)) (drop n (drop at edges))
        (subst IsSorted (sym (take-append-drop n (drop at edges)))
        (sorted_back (take at edges) (drop at edges) (subst IsSorted (sym (take-append-drop at edges)) sorted)));
    from = λ i e p. (
        let t = taken_place n (drop at edges) i e p in
        let is = get_or_from_slice_get (drop at edges) i e e t.1 in
        let h : nat_le e.from d.from ≡ true = search (rules, nat_le) in
        let low : e.from ≤ d.from = grind arith in
        let most : AtMost d e = later_at_most edges at (at + i) d e sorted (omega arith) here (sym (get_drop edges at i) ∙ t.1) in
        let high = most.by_from in
        omega arith);
  }

  pub some_run : 0 < n
  some_run = elim (cases_lt 0 n) [
    | inl l ↦ l
    | inr le ↦ absurd (
        let zero_more : at + 0 ≡ at = omega arith in
        let there : slice_get (drop at edges) 0 ≡ Some d = get_drop edges at 0 ∙ ap (λ k. slice_get edges k) zero_more ∙ here in
        let is = get_or_from_slice_get (drop at edges) 0 d d there in
        let h : nat_le d.from d.from ≡ false = search (rules, nat_le, slice_get_within) in
        let above : d.from < d.from = grind arith in
        omega arith)
  ]

  pub behind_run : (j : ℕ) (e : Edge) → at + n ≤ j → slice_get edges j ≡ Some e → d.from < e.from
  behind_run j e le p =
      let k : ℕ = j - at in
      let same : at + k ≡ j = omega arith in
      let there : slice_get (drop at edges) k ≡ Some e = get_drop edges at k ∙ ap (λ m. slice_get edges m) same ∙ p in
      let is = get_or_from_slice_get (drop at edges) k e e there in
      let h : nat_le e.from d.from ≡ false = search (rules, nat_le, slice_get_within) in
      grind arith

  pub run_taken : take at edges ++ take n (drop at edges) ≡ take (at + n) edges
  run_taken = sym (take_both at n edges)

  pub sorted_to_run : IsSorted (take at edges ++ take n (drop at edges))
  sorted_to_run = subst IsSorted (sym run_taken) (sorted_front (take (at + n) edges) (drop (at + n) edges)
      (subst IsSorted (sym (take-append-drop (at + n) edges)) sorted))
