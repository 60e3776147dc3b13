-- The places of items rise.
use Rattle.adl_names.proofs.Common.{AllByRecursion, Ended, Item, ItemAt, List, Rises, Source, SourceFile, [], arith, enumerate_from, flat_map, items_in, items_of, map, nat_tests, stands_before, true, ℕ, ◌++◌, ◌+◌, ◌∷◌, ◌≡◌}

abbrev pub places : List (ItemAt × Item) → List ItemAt
places xs = map (λ x. x.0) xs

abbrev Before : ItemAt → List ItemAt → Type 0
Before a bs = AllByRecursion (λ b. stands_before a b ≡ true) bs

-- fewer of rising places rise
before_drop : (a b : ItemAt) (xs ys : List ItemAt) → Before a (xs ++ b ∷ ys) → Before a (xs ++ ys)
before_drop a b [] ys h = h.1
before_drop a b (x ∷ xs) ys h = (h.0, before_drop a b xs ys h.1)

pub rises_drop : (b : ItemAt) (xs ys : List ItemAt) → Rises (xs ++ b ∷ ys) → Rises (xs ++ ys)
rises_drop b [] ys h = h.1
rises_drop b (x ∷ xs) ys h = (before_drop x b xs ys h.0, rises_drop b xs ys h.1)

abbrev place : ℕ → ℕ → ItemAt
place f i = record { file = f; item = i }

-- the places rise, behind all that stand before this one
abbrev From : ItemAt → List ItemAt → Type 0
From a ps = Rises ps × ((b : ItemAt) → stands_before b a ≡ true → Before b ps)

in_file : (f i : ℕ) (es : List Ended) (more : List (ItemAt × Item)) → From (place (f + 1) 0) (places more)
    → From (place f i) (places (map (λ e. (place f e.0, e.1.item)) (enumerate_from i es) ++ more))
in_file f i [] more h = (h.0, λ b l. h.1 b (grind (arith, nat_tests)))
in_file f i (e ∷ es) more h =
    let r = in_file f (i + 1) es more h in
    ((r.1 (place f i) (grind (arith, nat_tests)), r.0), λ b l. (l, r.1 b (grind (arith, nat_tests))))

in_files : (f : ℕ) (fs : List SourceFile) → From (place f 0) (places (flat_map items_in (enumerate_from f fs)))
in_files f [] = (tt, λ b l. tt)
in_files f (x ∷ fs) = in_file f 0 x.tree.items (flat_map items_in (enumerate_from (f + 1) fs)) (in_files (f + 1) fs)

pub rises_source : (s : Source) → Rises (places (items_of s))
rises_source s = (in_files 0 s.files).0
