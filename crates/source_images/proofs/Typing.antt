-- Types, one more at a time.
use Rattle.source_images.proofs.Common.{Bool, Bor, Fault, Flat, Leaf, List, Name, None, Option, Some, Source, [], ap, append-nil, append_assoc, arith, at_drop_more, bytes_eq, cond, cons_option, drop, false, filter_map, firsts, firsts_after, flat_map}
use Rattle.source_images.proofs.Common.{flat_map-append, get_or, is_some, length, length-append, length-map, map, map-append, names_told, noted, noted-append, option_and_then, option_or, position, position_from, position_from-snoc}
use Rattle.source_images.proofs.Common.{position_from-zero, refl, rules, sym, take, take_more, true, types, with_type, ℕ, ◌++◌, ◌+◌, ◌<◌, ◌||◌, ◌∙◌, ◌∷◌, ◌≡◌, ◌≤◌}

-- where something stands behind all others
pub position-push : {X : Type 0} (p : X → Bool) (xs : List X) (x : X)
    → position p (xs ++ x ∷ []) ≡ option_or (position p xs) (cond (p x) (Some (length xs)) None)
position-push p xs x = grind (arith, position_from-zero, position_from-snoc)

-- whether a name is among these
abbrev pub has : List Name → Name → Bool
has names name = is_some (position (bytes_eq name) names)

some_or : (o : Option ℕ) (b : Bool) (n : ℕ) → is_some (option_or o (cond b (Some n) None)) ≡ (is_some o || b)
some_or None true n = refl
some_or None false n = refl
some_or (Some m) b n = refl

has-push : (names : List Name) (x y : Name) → has (names ++ x ∷ []) y ≡ (has names y || bytes_eq y x)
has-push names x y = ap (λ o. is_some o) (position-push (bytes_eq y) names x) ∙ some_or (position (bytes_eq y) names)
    (bytes_eq y x) (length names)

-- those that are new behind these
abbrev pub behind : List Name → List Name → List Name
behind names [] = []
behind names (x ∷ xs) = cond (has names x) (behind names xs) (x ∷ behind (names ++ x ∷ []) xs)

firsts_are : (met : Name → Bool) (names xs : List Name) → ((y : Name) → met y ≡ has names y)
    → firsts_after bytes_eq met xs ≡ behind names xs
firsts_are met names [] same = refl
firsts_are met names (x ∷ xs) same =
    ap (λ b. cond b (firsts_after bytes_eq met xs) (x ∷ firsts_after bytes_eq (λ y. met y || bytes_eq y x) xs)) (same x)
    ∙ by_test (has names x) (firsts_are met names xs same)
    (firsts_are (λ y. met y || bytes_eq y x) (names ++ x ∷ []) xs (λ y. ap (λ b. b || bytes_eq y x) (same y)
    ∙ sym (has-push names x y)))
  where
    by_test : (b : Bool) → firsts_after bytes_eq met xs ≡ behind names xs
        → firsts_after bytes_eq (λ y. met y || bytes_eq y x) xs ≡ behind (names ++ x ∷ []) xs
        → cond b (firsts_after bytes_eq met xs) (x ∷ firsts_after bytes_eq (λ y. met y || bytes_eq y x) xs) ≡ cond b
        (behind names xs) (x ∷ behind (names ++ x ∷ []) xs)
    by_test true kept new = kept
    by_test false kept new = ap (λ z. x ∷ z) new

pub firsts-behind : (xs : List Name) → firsts bytes_eq xs ≡ behind [] xs
firsts-behind xs = firsts_are (λ y. false) [] xs (λ y. refl)

-- one more, and what is new behind it
pub behind-more : (names xs : List Name) (x : Name) → with_type names x ++ behind (with_type names x) xs ≡ names
    ++ behind names (x ∷ xs)
behind-more names xs x = by_test (has names x) refl
  where
    by_test : (b : Bool) → has names x ≡ b → with_type names x ++ behind (with_type names x) xs ≡ names ++ behind names (x ∷ xs)
    by_test true e = cc
    by_test false e = search (rules, append_assoc)

-- ---- numbers

-- what a table of numbers finds after one more
pub number_new : (old new : List (Bor Name)) (x : Bor Name) (k : ℕ) (f g : Name → Option ℕ) → new ≡ old ++ x ∷ [] → k ≡ length old
    → ((n : Name) → f n ≡ position (bytes_eq n) (names_told old))
    → ((n : Name) → g n ≡ option_or (f n) (cond (bytes_eq n x.now) (Some k) None)) → (n : Name)
    → g n ≡ position (bytes_eq n) (names_told new)
number_new old new x k f g push count before put n = search (rules, length-map, position-push, map-append)

-- a number that is looked up
pub number_is : (source : Source) (flat : Flat) (f : Name → Option ℕ) (o : Option Name)
    → ((n : Name) → f n ≡ position (bytes_eq n) (types source flat))
    → option_and_then f o ≡ option_and_then (λ name. position (bytes_eq name) (types source flat)) o
number_is source flat f None e = refl
number_is source flat f (Some name) e = e name

-- ---- leaves

-- one more of what is made one by one
pub map_more : {X Y : Type 0} (f : X → Y) (xs : List X) (i : ℕ) (x : X) (old new : List Y) → i < length xs → x ≡ get_or xs i x
    → old ≡ map f (take i xs) → new ≡ old ++ f x ∷ [] → new ≡ map f (take (i + 1) xs)
map_more f xs i x old new lt is before push =
    push ∙ ap (λ z. z ++ f x ∷ []) before ∙ ap (λ z. map f (take i xs) ++ f z ∷ []) is
    ∙ sym (map-append f (take i xs) (get_or xs i x ∷ [])) ∙ sym (ap (map f) (take_more xs i x lt))

-- one more of what is noted one by one
pub noted_more : {X : Type 0} (f : X → List Fault) (xs : List X) (i : ℕ) (x : X) (old new : Option Fault) (here : List Fault)
    → i < length xs → x ≡ get_or xs i x → old ≡ noted None (flat_map f (take i xs)) → here ≡ f x → new ≡ noted old here
    → new ≡ noted None (flat_map f (take (i + 1) xs))
noted_more f xs i x old new here lt is before gives put =
    put ∙ ap (noted old) (gives ∙ ap f is) ∙ ap (λ o. noted o (f (get_or xs i x))) before
    ∙ sym (noted-append None (flat_map f (take i xs)) (f (get_or xs i x)))
    ∙ ap (λ z. noted None (flat_map f (take i xs) ++ z)) (sym (append-nil (f (get_or xs i x))))
    ∙ sym (ap (noted None) (flat_map-append f (take i xs) (get_or xs i x ∷ [])))
    ∙ sym (ap (λ z. noted None (flat_map f z)) (take_more xs i x lt))

-- a leaf, and those behind it
pub leaf_first : (h : Leaf → Option Name) (leaves : List Leaf) (i : ℕ) (leaf : Leaf) → i < length leaves
    → leaf ≡ get_or leaves i leaf → filter_map h (drop i leaves) ≡ cons_option (h leaf) (filter_map h (drop (i + 1) leaves))
leaf_first h leaves i leaf lt is =
    at_drop_more (filter_map h) leaves i leaf lt ∙ ap (λ x. cons_option (h x) (filter_map h (drop (i + 1) leaves))) (sym is)

-- a leaf with a type, and what is new behind it
pub leaf_typed : (h : Leaf → Option Name) (leaves : List Leaf) (i : ℕ) (leaf : Leaf) (old new all : List Name) (name : Name)
    → i < length leaves → leaf ≡ get_or leaves i leaf → Some name ≡ h leaf → new ≡ with_type old name
    → old ++ behind old (filter_map h (drop i leaves)) ≡ all → new ++ behind new (filter_map h (drop (i + 1) leaves)) ≡ all
leaf_typed h leaves i leaf old new all name lt is typed more before =
    let rest : List Name = filter_map h (drop (i + 1) leaves) in
    ap (λ z. z ++ behind z rest) more ∙ behind-more old rest name
    ∙ ap (λ z. old ++ behind old z) (ap (λ o. cons_option o rest) typed ∙ sym (leaf_first h leaves i leaf lt is)) ∙ before

-- a leaf without a type
pub leaf_untyped : (h : Leaf → Option Name) (leaves : List Leaf) (i : ℕ) (leaf : Leaf) (old all : List Name) → i < length leaves
    → leaf ≡ get_or leaves i leaf → None ≡ h leaf
    → old ++ behind old (filter_map h (drop i leaves)) ≡ all → old ++ behind old (filter_map h (drop (i + 1) leaves)) ≡ all
leaf_untyped h leaves i leaf old all lt is typed before =
    let rest : List Name = filter_map h (drop (i + 1) leaves) in
    ap (λ z. old ++ behind old z) (ap (λ o. cons_option o rest) typed ∙ sym (leaf_first h leaves i leaf lt is)) ∙ before

with_few : (names : List Name) (x : Name) → length (with_type names x) ≤ length names + 1
with_few names x = by_test (has names x)
  where
    by_test : (b : Bool) → length (cond b names (names ++ x ∷ [])) ≤ length names + 1
    by_test true = omega arith
    by_test false = omega (arith, length-append names (x ∷ []))

pub few_more : (old new : List (Bor Name)) (x : Name) (n : ℕ) → names_told new ≡ with_type (names_told old) x → length old ≤ n
    → length new ≤ n + 1
few_more old new x n e few =
    omega (
      arith,
      with_few (names_told old) x,
      ap length e,
      length-map old (λ (b : Bor Name). b.now),
      length-map new
          (λ (b : Bor Name). b.now),
    )
