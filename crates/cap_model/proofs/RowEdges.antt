-- The edges of one row: what they are, and which edges are among them.
use Rattle.cap_model.proofs.Common.{Authority, Class, Edge, Err, IsBinarySearchResult, IsClass, IsIn, IsSearchInRange, IsSorted, List, None, Ok, Option, Ordering, Reply, Result, Row, Some, [], ap, arith, cases_lt, drop, drop-map, edge, edge_to}
use Rattle.cap_model.proofs.Common.{edges_of, from_map, get_behind, get_drop, get_or, get_or-map, has, in_append, in_left, in_map, in_place, in_right, inl, inr, is_ok, length, length-map, length-take-le, map, nat_cmp}
use Rattle.cap_model.proofs.Common.{ordering_then, place_of, refl, reply_to, rules, slice_get, subst, suc, sym, take, take-append-drop, take-map, true, zero, ℕ, ◌++◌, ◌+◌, ◌-◌, ◌<◌, ◌∙◌, ◌∷◌, ◌≡◌, ◌≢◌, ◌≤◌}
use Rattle.cap_model.specs.contracts.edge.EdgeOrd.TheImpl.{ghosts as ordered}
use Rattle.authorities.specs.contracts.authority.AuthorityOrd.TheImpl.{ghosts as numbered}
use Rattle.cap_model.proofs.TableMembers.{at_has, has_at}
use Rattle.cap_model.proofs.TablePlaces.{is_ok-search}

-- ---- the test, and membership

pub has_in : (edges : List Edge) (e : Edge) → IsIn e edges → has edges e ≡ true
has_in edges e i = let there = place_of e edges i in has_at edges there.0 e there.1

pub in_has : (edges : List Edge) (e : Edge) → has edges e ≡ true → IsIn e edges
in_has edges e h = let there = at_has edges e h in in_place e edges there.0 there.1

-- ---- binary search in what stands for edges

module _ {X : Type 0} (f : X → Edge) (cmp : X → X → Ordering) (x : X) (same : (y : X) → cmp y x ≡ ordered.cmp (f y) (f x)) where
  pub searched : (xs : List X) (found : Result ℕ ℕ) → IsSorted (map f xs) → IsSearchInRange found (length xs)
      → IsBinarySearchResult (λ y. cmp y x) xs found
      → is_ok found ≡ has (map f xs) (f x)
  searched xs (Ok i) sorted within found =
      let long = length-map xs f in
      is_ok-search (map f xs) (f x) (Ok i) sorted (omega arith)
      (λ d. rw (get_or-map f xs i x d within) (sym (same (get_or xs i x)) ∙ found x))
  searched xs (Err i) sorted within found =
      let long = length-map xs f in
      is_ok-search (map f xs) (f x) (Err i) sorted (omega arith) (λ rises.
      let parted = found (λ j k d le l. rw (
        same (get_or xs j d),
        same (get_or xs k d),
        ← get_or-map f xs j d (f d) (omega arith),
        ← get_or-map f xs k d (f d) l,
      ) (rises j k (f d) le (omega arith))) in (
        λ k d le l. rw (get_or-map f xs k x d (omega arith)) (sym (same (get_or xs k x)) ∙ parted.0 k x le l),
        λ k d le l. rw (get_or-map f xs k x d (omega arith)) (sym (same (get_or xs k x)) ∙ parted.1 k x le (omega arith)),
      ))

-- ---- what is among the edges of a row

pub others : (c : Class) → IsClass c → (p : Authority × ℕ) → IsIn p c.pairs.items → p.0 ≢ Reply
others c is_class p i is = search (rules, place_of, cases_lt)

pub of_label : (o : Option Class) (r : Row) (e : Edge) → IsIn e (edges_of o r) → e.from ≡ r.label
of_label None r e h = absurd h
of_label (Some c) r e h = elim (in_append e (map (edge_to r.label) (take c.before c.pairs.items)) _ h) [
  | inl i ↦ let p = from_map (edge_to r.label) e _ i in sym (ap (λ (x : Edge). x.from) p.2)
  | inr i ↦ elim (in_append e (map (reply_to r.label) r.replies.items) _ i) [
    | inl j ↦ let p = from_map (reply_to r.label) e _ j in sym (ap (λ (x : Edge). x.from) p.2)
    | inr j ↦ let p = from_map (edge_to r.label) e _ j in sym (ap (λ (x : Edge). x.from) p.2)
  ]
]

pub pair_is : (p : Authority × ℕ) (l n : ℕ) (a : Authority) (m : ℕ) → edge_to l p ≡ edge n a m → p ≡ (a, m)
pair_is p l n a m e = search (rules)

pub in_pairs : (l : ℕ) (pairs : List (Authority × ℕ)) (n : ℕ) (a : Authority) (m : ℕ) → IsIn (edge n a m) (map (edge_to l) pairs)
    → IsIn (a, m) pairs
in_pairs l pairs n a m i =
    let p = from_map (edge_to l) (edge n a m) pairs i in
    let P : Authority × ℕ → Type 0 = λ q. IsIn q pairs in subst P (pair_is p.0 l n a m p.2) p.1

pub in_take : {X : Type 0} (n : ℕ) (xs : List X) (x : X) → IsIn x (take n xs) → IsIn x xs
in_take {X} n xs x i = let P : List X → Type 0 = λ ys. IsIn x ys in
    subst P (take-append-drop n xs) (in_left x (take n xs) (drop n xs) i)

pub in_drop : {X : Type 0} (n : ℕ) (xs : List X) (x : X) → IsIn x (drop n xs) → IsIn x xs
in_drop {X} n xs x i = let P : List X → Type 0 = λ ys. IsIn x ys in
    subst P (take-append-drop n xs) (in_right x (take n xs) (drop n xs) i)

in_either : {X : Type 0} (n : ℕ) (xs : List X) (x : X) → IsIn x xs → IsIn x (take n xs ++ drop n xs)
in_either {X} n xs x i = let P : List X → Type 0 = λ ys. IsIn x ys in subst P (sym (take-append-drop n xs)) i

module _ (c : Class) (r : Row) where
  pub pair_among : (a : Authority) (m : ℕ) → IsIn (a, m) c.pairs.items → IsIn (edge r.label a m) (edges_of (Some c) r)
  pair_among a m i =
      elim (in_append (a, m) (take c.before c.pairs.items) (drop c.before c.pairs.items)
      (in_either c.before c.pairs.items (a, m) i)) [
        | inl j ↦ in_left _ (map (edge_to r.label) (take c.before c.pairs.items)) _ (in_map (edge_to r.label) (a, m) _ j)
        | inr j ↦ in_right _ (map (edge_to r.label) (take c.before c.pairs.items)) _
            (in_right _ (map (reply_to r.label) r.replies.items) _ (in_map (edge_to r.label) (a, m) _ j))
      ]

  pub reply_among : (m : ℕ) → IsIn m r.replies.items → IsIn (edge r.label Reply m) (edges_of (Some c) r)
  reply_among m i = in_right _ (map (edge_to r.label) (take c.before c.pairs.items)) _
      (in_left _ (map (reply_to r.label) r.replies.items) _ (in_map (reply_to r.label) m _ i))

  module _ (is_class : IsClass c) where
    -- an edge other than Reply is one of the pairs
    pub among_pairs : (n : ℕ) (a : Authority) (m : ℕ) → a ≢ Reply → IsIn (edge n a m) (edges_of (Some c) r)
        → IsIn (a, m) c.pairs.items
    among_pairs n a m other h = elim (in_append (edge n a m) (map (edge_to r.label) (take c.before c.pairs.items)) _ h) [
      | inl i ↦ in_take c.before c.pairs.items (a, m) (in_pairs r.label _ n a m i)
      | inr i ↦ elim (in_append (edge n a m) (map (reply_to r.label) r.replies.items) _ i) [
        | inl j ↦ let p = from_map (reply_to r.label) (edge n a m) _ j in
            absurd (other (sym (ap (λ (x : Edge). x.authority) p.2)))
        | inr j ↦ in_drop c.before c.pairs.items (a, m) (in_pairs r.label _ n a m j)
      ]
    ]

    pub among_replies : (n m : ℕ) → IsIn (edge n Reply m) (edges_of (Some c) r) → IsIn m r.replies.items
    among_replies n m h = elim (in_append (edge n Reply m) (map (edge_to r.label) (take c.before c.pairs.items)) _ h) [
      | inl i ↦
          absurd (others c is_class (Reply, m) (in_take c.before c.pairs.items (Reply, m) (in_pairs r.label _ n Reply m i)) refl)
      | inr i ↦ elim (in_append (edge n Reply m) (map (reply_to r.label) r.replies.items) _ i) [
        | inl j ↦ let p = from_map (reply_to r.label) (edge n Reply m) _ j in let P : ℕ → Type 0 = λ k. IsIn k r.replies.items in
            subst P (ap (λ (x : Edge). x.to) p.2) p.1
        | inr j ↦ search (rules, others, in_drop, in_pairs)
      ]
    ]

    pub has_pair : (a : Authority) (m : ℕ) → a ≢ Reply → has (map (edge_to 0) c.pairs.items) (edge_to 0 (a, m)) ≡ has
        (edges_of (Some c) r) (edge r.label a m)
    has_pair a m other = search (rules, has_in, pair_among, in_pairs, in_has, in_map, among_pairs)

    pub has_reply : (m : ℕ) → has (map (reply_to 0) r.replies.items) (reply_to 0 m) ≡ has (edges_of (Some c) r)
        (edge r.label Reply m)
    has_reply m = search (rules, has_in, reply_among, from_map, in_has, in_map, among_replies)

edge_is : (e : Edge) (l : ℕ) (a : Authority) → l ≡ e.from → e.authority ≡ a → edge l a e.to ≡ e
edge_is e l a f b = let g : ◌≡◌ {A = Edge} (record { from = l; authority = a; to = e.to })
    (record { from = e.from; authority = e.authority; to = e.to }) = rw (f, b) refl in g

module _ (c : Class) (r : Row) (e : Edge) (is_class : IsClass c) (label : r.label ≡ e.from) where
  pub reply_found : (xs : List ℕ) (found : Result ℕ ℕ) → IsSorted (map (reply_to 0) r.replies.items) → e.authority ≡ Reply
      → xs ≡ r.replies.items
      → IsSearchInRange found (length xs) → IsBinarySearchResult (λ y. nat_cmp y e.to) xs found
      → is_ok found ≡ has (edges_of (Some c) r) e
  reply_found xs found sorted reply same within position =
      let here : has (map (reply_to 0) xs) (reply_to 0 e.to) ≡ has (edges_of (Some c) r) (edge r.label Reply e.to) =
      rw same (has_reply c r is_class e.to) in
      let sorted' : IsSorted (map (reply_to 0) xs) = rw same sorted in
      searched (reply_to 0) nat_cmp e.to (λ y. refl) xs found sorted' within position ∙ here
      ∙ ap (λ d. has (edges_of (Some c) r) d) (edge_is e r.label Reply label reply)

  pub pair_found : (a : Authority) (xs : List (Authority × ℕ)) (found : Result ℕ ℕ) → a ≢ Reply → e.authority ≡ a
      → xs ≡ c.pairs.items
      → IsSearchInRange found (length xs) → IsBinarySearchResult (λ y. ordering_then (numbered.cmp y.0 a) (nat_cmp y.1 e.to)) xs
      found → is_ok found ≡ has (edges_of (Some c) r) e
  pair_found a xs found other is same within position =
      let here : has (map (edge_to 0) xs) (edge_to 0 (a, e.to)) ≡ has (edges_of (Some c) r) (edge r.label a e.to) =
      rw same (has_pair c r is_class a e.to other) in
      let sorted' : IsSorted (map (edge_to 0) xs) = rw same is_class.sorted in
      searched (edge_to 0) (λ y z. ordering_then (numbered.cmp y.0 z.0) (nat_cmp y.1 z.1)) (a, e.to) (λ y. refl) xs found sorted'
      within position ∙ here ∙ ap (λ d. has (edges_of (Some c) r) d) (edge_is e r.label a label is)

-- ---- what stands at a place of a row

pub get_in_front : {X : Type 0} (xs ys : List X) (n : ℕ) → n < length xs → slice_get (xs ++ ys) n ≡ slice_get xs n
get_in_front [] ys n l = absurd (omega arith)
get_in_front (x ∷ xs) ys zero l = refl
get_in_front (x ∷ xs) ys (suc n) l = get_in_front xs ys n (omega (arith, l))

get_taken : {X : Type 0} (n : ℕ) (xs : List X) (k : ℕ) → k < n → slice_get (take n xs) k ≡ slice_get xs k
get_taken zero xs k l = absurd (omega arith)
get_taken (suc n) [] k l = refl
get_taken (suc n) (x ∷ xs) zero l = refl
get_taken (suc n) (x ∷ xs) (suc k) l = get_taken n xs k (omega (arith, l))

module _ (c : Class) (r : Row) (within : c.before ≤ length c.pairs.items) where
  front_long : length (map (edge_to r.label) (take c.before c.pairs.items)) ≡ c.before
  front_long = length-map (take c.before c.pairs.items) (edge_to r.label) ∙ length-take-le c.before c.pairs.items within

  pub at_front : (at : ℕ) → at < c.before → slice_get (map (edge_to r.label) c.pairs.items) at ≡ slice_get
      (edges_of (Some c) r) at
  at_front at l = sym (
      get_in_front (map (edge_to r.label) (take c.before c.pairs.items)) _ at (omega (arith, front_long))
      ∙ ap (λ xs. slice_get xs at) (sym (take-map (edge_to r.label) c.before c.pairs.items))
      ∙ get_taken c.before (map (edge_to r.label) c.pairs.items) at l)

  pub at_reply : (at : ℕ) → c.before ≤ at → at - c.before < length r.replies.items
      → slice_get (map (reply_to r.label) r.replies.items) (at - c.before) ≡ slice_get (edges_of (Some c) r) at
  at_reply at le l = grind (arith, get_behind, front_long, get_in_front, length-map)

  pub at_back : (at : ℕ) → c.before ≤ at → length r.replies.items ≤ at - c.before
      → slice_get (map (edge_to r.label) c.pairs.items) (at - length r.replies.items) ≡ slice_get (edges_of (Some c) r) at
  at_back at le l = sym (
      let n : ℕ = at - c.before - length r.replies.items in
      let long = length-map r.replies.items (reply_to r.label) in
      let on : c.before + n ≡ at - length r.replies.items = omega arith in
      get_behind (map (edge_to r.label) (take c.before c.pairs.items)) _ (at - c.before) at (omega (arith, front_long))
      ∙ get_behind (map (reply_to r.label) r.replies.items) _ n (at - c.before) (omega arith)
      ∙ ap (λ xs. slice_get xs n) (sym (drop-map (edge_to r.label) c.before c.pairs.items))
      ∙ get_drop (map (edge_to r.label) c.pairs.items) c.before n
      ∙ ap (λ k. slice_get (map (edge_to r.label) c.pairs.items) k) on)
