-- The search as a whole: where it begins, each edge that is looked at, and where it ends.
use Rattle.std.proofs.Common.{rules}
use Rattle.label_flow.proofs.Common.{AreBelow, AreExits, Bool, Chain, Contains, Edge, Flows, Found, IsApart, IsLooking, IsPlaced, IsSearch, IsShortest, List, Looks, None, Option, Passes, Search, Searches, Some, [], ap, arith, blank, cases_lt, cond}
use Rattle.label_flow.proofs.Common.{contains_at, count_by, exits_of, false, from_holder, get_front, get_or, get_or-set_same, get_or_from_slice_get, inl, inr, is_none, is_some, length, length-set, met_found, met_places, passed_to, place_of, refl}
use Rattle.label_flow.proofs.Common.{set, slice_get, slice_get_read, slice_get_within, subst, suc, sum_by-cons, sym, to_holder, true, zero, ℕ, ◌++◌, ◌+◌, ◌<◌, ◌∙◌, ◌∷◌, ◌≡◌, ◌≤◌}
use Rattle.label_flow.proofs.Meeting.{one_at, placed_set, stays_placed, count_less, met_more}
use Rattle.label_flow.proofs.Passed.{at_contains, passed_is, passes_only, flows_pass}

-- ---- the beginning

pub blank_more : (n : ℕ) → blank n ++ None ∷ [] ≡ blank (n + 1)
blank_more zero = refl
blank_more (suc n) = let e : suc n + 1 ≡ suc (n + 1) = omega arith in
    rw e (ap (λ (rest : List (Option ℕ)). None ∷ rest) (blank_more n))

pub blank_length : (n : ℕ) → length (blank n) ≡ n
blank_length zero = refl
blank_length (suc n) = let e = blank_length n in omega arith

blank_none : (n m : ℕ) → place_of (blank n) m ≡ None
blank_none zero m = refl
blank_none (suc n) zero = refl
blank_none (suc n) (suc m) = blank_none n m

blank_count : (n : ℕ) → count_by is_none (blank n) ≡ n
blank_count zero = refl
blank_count (suc n) =
    let e : count_by is_none (None ∷ blank n) ≡ 1 + count_by is_none (blank n) = search (rules, sum_by-cons) in
    let f = blank_count n in
    omega arith

-- only one label is found
one_found : (x : Found) (i : ℕ) (f : Found) → slice_get (x ∷ []) i ≡ Some f → (i ≡ 0) × (x ≡ f)
one_found x zero f h = (refl, (let s : x ≡ f = cc in s))
one_found x (suc i) f h = absurd cc

pub begins : (edges : List Edge) (from count : ℕ) (x : Found) → from < count → x.label ≡ from → x.depth ≡ 0
    → IsSearch edges from (x ∷ []) (set (blank count) from (Some 0)) 0
begins edges from count x less label depth =
    search (rules, blank_length, one_found, placed_set, blank_none, slice_get, set, get_or-set_same, count_less, blank_count)

-- ---- one edge

met_wide : (places : List (Option ℕ)) (found : List Found) (f : Found) → length (met_places places found f) ≡ length places
met_wide places found f = search (rules, length-set)

module _ (edges : List Edge) (from count : ℕ) (s : Search) (at : ℕ) (h : Found) (leaving : List ℕ) (i p : ℕ)
    (looks : Looks edges from count s at h leaving i) (here : slice_get leaving i ≡ Some p) (e : Edge)
    (by : slice_get edges p ≡ Some e) where
  same_edge : (j q : ℕ) (d : Edge) → j ≡ i → slice_get leaving j ≡ Some q → slice_get edges q ≡ Some d → e ≡ d
  same_edge j q d same got is = search (rules, slice_get)

  -- by which nothing passes from the label looked at
  pub looks_past : passed_to e h.label ≡ None → Looks edges from count s at h leaving (i + 1)
  looks_past none = record {
    start = looks.start;
    wide = looks.wide;
    is = record {
      search = looks.is.search;
      there = looks.is.there;
      part = λ j q d less got is m passes. elim (cases_lt j i) [
        | inl before ↦ looks.is.part j q d before got is m passes
        | inr last ↦ absurd (let one : e ≡ d = same_edge j q d (omega arith) got is in
            let w : passed_to e h.label ≡ Some m = subst (λ (x : Edge). passed_to x h.label ≡ Some m) (sym one)
            (passes_only d h.label m passes) in cc)
      ];
    };
  }

  -- by which something passes to a label
  module _ (label : ℕ) (passed : passed_to e h.label ≡ Some label) (found : List Found) (places : List (Option ℕ)) where
    -- the edge is done with once its label is placed
    part_more : IsSearch edges from found places at → slice_get found at ≡ Some h → IsPlaced places label
        → ((m : ℕ) → IsPlaced s.places.items m → IsPlaced places m) → IsLooking edges from found places at h leaving (i + 1)
    part_more search there placed stays = record {
      search = search;
      there = there;
      part = λ j q d less got is m passes. elim (cases_lt j i) [
        | inl before ↦ stays m (looks.is.part j q d before got is m passes)
        | inr last ↦ let one : e ≡ d = same_edge j q d (omega arith) got is in
            let w : passed_to e h.label ≡ Some m = subst (λ (x : Edge). passed_to x h.label ≡ Some m) (sym one)
            (passes_only d h.label m passes) in
            let to : label ≡ m = cc in
            subst (λ (n : ℕ). IsPlaced places n) to placed
      ];
    }

    looking_more : label < length s.places.items
        → found ≡ met_found s.places.items s.found.items (record { label = label; by = p; previous = at; depth = h.depth + 1 })
        → places ≡ met_places s.places.items s.found.items (record { label = label; by = p; previous = at; depth = h.depth + 1 })
        → IsLooking edges from found places at h leaving (i + 1)
    looking_more within sames alsos = go (place_of s.places.items label) refl where
      go : (o : Option ℕ) → place_of s.places.items label ≡ o → IsLooking edges from found places at h leaving (i + 1)
      go (Some n) is =
          let f : found ≡ s.found.items = sames ∙ (rw is refl) in
          let g : places ≡ s.places.items = alsos ∙ (rw is refl) in
          part_more (subst (λ (x : List Found). IsSearch edges from x places at) (sym f)
          (subst (λ (y : List (Option ℕ)). IsSearch edges from s.found.items y at) (sym g) looks.is.search))
          (subst (λ (x : List Found). slice_get x at ≡ Some h) (sym f) looks.is.there)
          (n, subst (λ (y : List (Option ℕ)). place_of y label ≡ Some n) (sym g) is)
          (λ m placed. subst (λ (y : List (Option ℕ)). IsPlaced y m) (sym g) placed)
      go None is =
          let f : found ≡ s.found.items ++ record { label = label; by = p; previous = at; depth = h.depth + 1 } ∷ [] =
          sames ∙ (rw is refl) in
          let g : places ≡ set s.places.items label (Some (length s.found.items)) = alsos ∙ (rw is refl) in
          let search : IsSearch edges from (s.found.items ++ record { label = label; by = p; previous = at; depth = h.depth + 1 }
          ∷ []) (set s.places.items label (Some (length s.found.items))) at =
          met_more edges from s.found.items s.places.items at looks.is.search h looks.is.there (record {
            label = label;
            by = p;
            previous = at;
            depth = h.depth + 1;
          }) e is within by (passed_is e h.label label passed) refl refl in
          part_more (subst (λ (x : List Found). IsSearch edges from x places at) (sym f)
          (subst (λ (y : List (Option ℕ)). IsSearch edges from (s.found.items ++ record {
            label = label;
            by = p;
            previous = at;
            depth = h.depth + 1;
          } ∷ []) y at) (sym g) search))
          (subst (λ (x : List Found). slice_get x at ≡ Some h) (sym f)
          (get_front s.found.items (record { label = label; by = p; previous = at; depth = h.depth + 1 } ∷ []) at h
          looks.is.there)) (
            length s.found.items,
            subst (λ (y : List (Option ℕ)). place_of y label ≡ Some (length s.found.items)) (sym g)
                (get_or-set_same s.places.items label (Some (length s.found.items)) None within),
          )
          (λ m placed. subst (λ (y : List (Option ℕ)). IsPlaced y m) (sym g)
          (stays_placed s.places.items label (length s.found.items) m within placed))

  pub passed_below : (label : ℕ) → AreBelow (length s.places.items) edges → passed_to e h.label ≡ Some label
      → label < length s.places.items
  passed_below label below passed =
      let ends = below.ends e (at_contains edges p e by) in
      go (passed_is e h.label label passed) ends.0 ends.1 where
        go : Passes e h.label label → e.from < length s.places.items → e.to < length s.places.items
            → label < length s.places.items
        go (from_holder goes same also) first second = subst (λ (n : ℕ). n < length s.places.items) (sym also) second
        go (to_holder goes same also) first second = subst (λ (n : ℕ). n < length s.places.items) (sym also) first

  pub looks_met : (label : ℕ) (new : Search) → passed_to e h.label ≡ Some label → label < length s.places.items
      → new.found.items ≡ met_found s.places.items s.found.items (record {
        label = label;
        by = p;
        previous = at;
        depth = h.depth + 1;
      })
      → new.places.items ≡ met_places s.places.items s.found.items (record {
        label = label;
        by = p;
        previous = at;
        depth = h.depth + 1;
      }) → new.from ≡ s.from → Looks edges from count new at h leaving (i + 1)
  looks_met label new passed within found places start = search (rules, met_wide, looking_more)

-- ---- one label, and all

pub looks_first : (edges : List Edge) (from count : ℕ) (s : Search) (at : ℕ) (h : Found) (leaving : List ℕ)
    → Searches edges from count s at → slice_get s.found.items at ≡ Some h → Looks edges from count s at h leaving 0
looks_first edges from count s at h leaving searches there = search (rules)

-- an edge by which something passes from a label stands in the label's row
in_row : (edges : List Edge) (count : ℕ) (exits : List (List ℕ)) (k : ℕ) (e : Edge) (l m : ℕ)
    → AreExits edges count (length edges) exits → slice_get edges k ≡ Some e → Passes e l m → Contains (exits_of exits l) k
in_row edges count exits k e l m are is (from_holder goes same also) =
    subst (λ (n : ℕ). Contains (exits_of exits n) k) (sym same) (are.all k e (slice_get_within edges k e is) is).0
in_row edges count exits k e l m are is (to_holder goes same also) =
    subst (λ (n : ℕ). Contains (exits_of exits n) k) (sym same) (are.all k e (slice_get_within edges k e is) is).1

pub looks_last : (edges : List Edge) (from count : ℕ) (s : Search) (at i : ℕ) (h : Found) (exits : List (List ℕ))
    (leaving : List ℕ)
    → AreExits edges count (length edges) exits → leaving ≡ exits_of exits h.label → length leaving ≤ i
    → Looks edges from count s at h leaving i → Searches edges from count s (at + 1)
looks_last edges from count s at i h exits leaving are whole all looks = record {
  start = looks.start;
  wide = looks.wide;
  is = (let b = looks.is.search in record {
    met = b.met;
    shallow = b.shallow;
    rising = b.rising;
    least = b.least;
    placed = b.placed;
    known = b.known;
    counted = b.counted;
    begun = b.begun;
    looked = λ n f less got e m has passes. elim (cases_lt n at) [
      | inl before ↦ b.looked n f before got e m has passes
      | inr last ↦ let same : n ≡ at = omega arith in
          let also : slice_get s.found.items at ≡ Some f = subst (λ (n : ℕ). slice_get s.found.items n ≡ Some f) same got in
          let there = looks.is.there in
          let one : h ≡ f = cc in
          let by : Passes e h.label m = subst (λ (x : Found). Passes e x.label m) (sym one) passes in
          let place = contains_at edges e has in
          let stands : Contains leaving place.0 = subst (λ (ks : List ℕ). Contains ks place.0) (sym whole)
          (in_row edges count exits place.0 e h.label m are place.1 by) in
          let index = contains_at leaving place.0 stands in
          let within = slice_get_within leaving index.0 place.0 index.1 in
          looks.is.part index.0 place.0 e (omega arith) index.1 place.1 m by
    ];
    near = λ f got j g also.
        let near = b.near h looks.is.there j g also in
        let rise = b.rising at (at + 1) h f (omega arith) looks.is.there got in
        omega arith;
  });
}

-- what is found at a place has a label of the table
pub placed_below : (places : List (Option ℕ)) (m i : ℕ) → place_of places m ≡ Some i → m < length places
placed_below [] m i h = absurd cc
placed_below (x ∷ xs) zero i h = omega arith
placed_below (x ∷ xs) (suc m) i h = let l : m < length xs = placed_below xs m i h in omega arith

pub found_few : (edges : List Edge) (from count : ℕ) (s : Search) (at : ℕ) → Searches edges from count s at
    → length s.found.items ≤ count
found_few edges from count s at searches = let c = searches.is.counted in let w = searches.wide in omega arith

is_out : List (Option ℕ) → ℕ → Bool
is_out places m = is_none (place_of places m)

pub ends_apart : (edges : List Edge) (from to count : ℕ) (s : Search) → Searches edges from count s (length s.found.items)
    → place_of s.places.items to ≡ None → IsApart edges from to
unfolding is_out
ends_apart edges from to count s searches none = record {
  inside = is_out s.places.items;
  closed = λ l m flows out. go l m (place_of s.places.items l) refl flows out;
  has = rw none refl;
  lacks = rw searches.is.begun.1 refl;
} where
  go : (l m : ℕ) (o : Option ℕ) → place_of s.places.items l ≡ o → Flows edges l m → is_none (place_of s.places.items m) ≡ true
      → is_none (place_of s.places.items l) ≡ true
  go l m None is flows out = rw is refl
  go l m (Some i) is flows out = absurd (let f = searches.is.placed l i is in
      let p = (flows_pass edges l m).0 flows in
      let placed = searches.is.looked i f.0 (slice_get_within s.found.items i f.0 f.1) f.1 p.0 m p.1
      (subst (λ (n : ℕ). Passes p.0 n m) (sym f.2) p.2) in
      let w : is_none (Some placed.0) ≡ true = rw placed.1 at out in cc)

-- ---- what the functions ask

pub begun_searches : (edges : List Edge) (from count : ℕ) (s : Search) (x : Found) → s.from ≡ from → s.found.items ≡ x ∷ []
    → s.places.items ≡ set (blank count) from (Some 0) → from < count → x.label ≡ from
    → x.depth ≡ 0 → Searches edges from count s 0
begun_searches edges from count s x start found places less label depth = record {
  start = start;
  wide = ap (λ (y : List (Option ℕ)). length y) places ∙ length-set (blank count) from (Some 0) ∙ blank_length count;
  is =
      subst (λ (xs : List Found). IsSearch edges from xs s.places.items 0) (sym found)
      (subst (λ (ys : List (Option ℕ)). IsSearch edges from (x ∷ []) ys 0) (sym places)
      (begins edges from count x less label depth));
}

pub searches_as : (edges : List Edge) (from count l n : ℕ) (s : Search) (at : ℕ) → l ≡ from → n ≡ count → Searches edges l n s at
    → Searches edges from count s at
searches_as edges from count l n s at same also searches =
    subst (λ (k : ℕ). Searches edges from k s at) also (subst (λ (k : ℕ). Searches edges k n s at) same searches)

pub searches_end : (edges : List Edge) (from count : ℕ) (s : Search) (at : ℕ) → length s.found.items ≤ at
    → Searches edges from count s at → Searches edges from count s (length s.found.items)
searches_end edges from count s at all searches = record {
  start = searches.start;
  wide = searches.wide;
  is = (let b = searches.is in record {
    met = b.met;
    shallow = b.shallow;
    rising = b.rising;
    least = b.least;
    placed = b.placed;
    known = b.known;
    counted = b.counted;
    begun = b.begun;
    looked = λ i f less got. b.looked i f (omega arith) got;
    near = λ f got j g also. absurd (let w = slice_get_within s.found.items (length s.found.items) f got in omega arith);
  });
}

pub place_read : (places : List (Option ℕ)) (m : ℕ) (o : Option ℕ) → m < length places → o ≡ get_or places m o
    → place_of places m ≡ o
place_read places m o less h = get_or_from_slice_get places m o None (slice_get_read places _ m o refl less h)

pub ends_shortest : (edges : List Edge) (from to count : ℕ) (s : Search) (place : ℕ) (f : Found) (chain : List Edge)
    → Searches edges from count s (length s.found.items) → place_of s.places.items to ≡ Some place
    → slice_get s.found.items place ≡ Some f → Chain edges s.from chain f.label → length chain ≡ f.depth
    → IsShortest edges from to chain
ends_shortest edges from to count s place f chain searches placed there leads long = search (rules, one_at)

-- the label looked at, and the places of the edges that leave it
pub head_below : (edges : List Edge) (from count : ℕ) (s : Search) (at : ℕ) (h : Found) → Searches edges from count s at
    → at < length s.found.items → h ≡ get_or s.found.items at h → h.label < count
head_below edges from count s at h searches within is = search (rules, slice_get_read, placed_below)

pub row_is : (edges : List Edge) (count done : ℕ) (exits : List (List ℕ)) (l : ℕ) (leaving r : List ℕ)
    → AreExits edges count done exits → l < count → leaving ≡ r → r ≡ get_or exits l r → leaving ≡ exits_of exits l
row_is edges count done exits l leaving r are below same is = search (rules, get_or_from_slice_get, slice_get_read)

pub row_inside : (edges : List Edge) (count done : ℕ) (exits : List (List ℕ)) (l i p : ℕ) (leaving : List ℕ)
    → AreExits edges count done exits → leaving ≡ exits_of exits l → slice_get leaving i ≡ Some p → p < length edges
row_inside edges count done exits l i p leaving are whole here =
    are.inside l p (subst (λ (ks : List ℕ). Contains ks p) whole (at_contains leaving i p here))
