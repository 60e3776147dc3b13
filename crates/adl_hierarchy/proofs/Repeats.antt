-- Lists in which nothing stands twice.
use Rattle.adl_hierarchy.proofs.Common.{Bool, Fault, Id, IsIn, IsOnce, List, Name, None, Option, Path, Some, [], ap, bytes_eq, bytes_eq-Decides, cond, cons_option, false, filter_map, find, flat_map, from_filter_map, from_flat_map, from_map}
use Rattle.adl_hierarchy.proofs.Common.{in_append, in_left, in_map, in_right, inl, inr, map, map-append, none_right, or_left, or_right, refl, repeats, repeats_after, rules, subst, sym, true, where_true, ◌++◌, ◌||◌, ◌∙◌, ◌∷◌, ◌≡◌}

-- ---- lists made of others

pub once_append : {X : Type 0} (xs ys : List X) → IsOnce xs → IsOnce ys → ((x : X) → IsIn x xs → IsIn x ys → ⊥)
    → IsOnce (xs ++ ys)
once_append [] ys a b h = b
once_append (x ∷ xs) ys a b h = (
  λ i. elim (in_append x xs ys i) [ inl j ↦ a.0 j | inr j ↦ h x (inl refl) j ],
  once_append xs ys a.1 b
      (λ y i j. h y (inr i) j),
)

pub once_left : {X : Type 0} (xs ys : List X) → IsOnce (xs ++ ys) → IsOnce xs
once_left [] ys a = tt
once_left (x ∷ xs) ys a = (λ i. a.0 (in_left x xs ys i), once_left xs ys a.1)

pub once_right : {X : Type 0} (xs ys : List X) → IsOnce (xs ++ ys) → IsOnce ys
once_right [] ys a = a
once_right (x ∷ xs) ys a = once_right xs ys a.1

pub once_apart : {X : Type 0} (xs ys : List X) (x : X) → IsOnce (xs ++ ys) → IsIn x xs → IsIn x ys → ⊥
once_apart [] ys x a i j = i
once_apart {X} (y ∷ xs) ys x a (inl e) j = a.0 (in_right y xs ys (let P : X → Type 0 = λ z. IsIn z ys in subst P (sym e) j))
once_apart (y ∷ xs) ys x a (inr i) j = once_apart xs ys x a.1 i j

-- what f makes of things that stand once stands once, where g gives each back
pub once_map : {X Y : Type 0} (f : X → Y) (g : Y → X) (xs : List X) → ((x : X) → g (f x) ≡ x) → IsOnce xs → IsOnce (map f xs)
once_map f g [] back a = tt
once_map {X} {Y} f g (x ∷ xs) back a = (
  λ i. let k = from_map f (f x) xs i in
      a.0 (subst (λ y. IsIn y xs) (sym (back k.0) ∙ ap g k.2 ∙ back x) k.1),
  once_map f g xs back a.1,
)

-- ---- keys of what is left of lists

pub filtered_in : {X Y K : Type 0} (f : X → Option Y) (key : Y → K) (name : X → K)
    → ((x : X) (y : Y) → f x ≡ Some y → key y ≡ name x)
    → (xs : List X) (k : K) → IsIn k (map key (filter_map f xs)) → IsIn k (map name xs)
filtered_in {X} {Y} {K} f key name same xs k i = search (rules, from_map, from_filter_map, in_map)

pub once_filtered : {X Y K : Type 0} (f : X → Option Y) (key : Y → K) (name : X → K)
    → ((x : X) (y : Y) → f x ≡ Some y → key y ≡ name x)
    → (xs : List X) → IsOnce (map name xs) → IsOnce (map key (filter_map f xs))
once_filtered f key name same [] a = tt
once_filtered {X} {Y} {K} f key name same (x ∷ xs) a = by_case (f x) refl (once_filtered f key name same xs a.1)
  where
    by_case : (o : Option Y) → f x ≡ o → IsOnce (map key (filter_map f xs)) → IsOnce (map key (cons_option o (filter_map f xs)))
    by_case None e ih = ih
    by_case (Some y) e ih = (
      λ i. a.0 (let P : K → Type 0 = λ z. IsIn z (map name xs) in
          subst P (same x y e) (filtered_in f key name same xs (key y) i)),
      ih,
    )

pub once_flat_map : {X Y Z K : Type 0} (f : X → List Y) (g : X → List Z) (key : Y → K) (name : Z → K)
    → ((x : X) (k : K) → IsIn k (map key (f x)) → IsIn k (map name (g x)))
    → ((x : X) → IsOnce (map name (g x)) → IsOnce (map key (f x)))
    → (xs : List X) → IsOnce (map name (flat_map g xs)) → IsOnce (map key (flat_map f xs))
    × ((k : K) → IsIn k (map key (flat_map f xs)) → IsIn k (map name (flat_map g xs)))
once_flat_map f g key name sub once [] a = (tt, λ k i. i)
once_flat_map {X} {Y} {Z} {K} f g key name sub once (x ∷ xs) a =
    let P : List K → Type 0 = λ ks. IsOnce ks in
    let here = map-append name (g x) (flat_map g xs) in
    let there = map-append key (f x) (flat_map f xs) in
    let b = subst P here a in
    let more = once_flat_map f g key name sub once xs (once_right (map name (g x)) (map name (flat_map g xs)) b) in
    let whole = once_append (map key (f x)) (map key (flat_map f xs))
    (once x (once_left (map name (g x)) (map name (flat_map g xs)) b)) more.0
    (λ k i j. once_apart (map name (g x)) (map name (flat_map g xs)) k b (sub x k i) (more.1 k j)) in (
      subst P (sym there) whole,
      λ k i.
          let Q : List K → Type 0 = λ ks. IsIn k ks in
          subst Q (sym here) (elim (in_append k (map key (f x)) (map key (flat_map f xs)) (subst Q there i)) [
            | inl j ↦ in_left k (map name (g x)) (map name (flat_map g xs)) (sub x k j)
            | inr j ↦ in_right k (map name (g x)) (map name (flat_map g xs)) (more.1 k j)
          ]),
    )

-- the name that a path begins with
abbrev pub head_of : Path → Name
head_of [] = []
head_of (n ∷ p) = n

abbrev pub tail_of : Path → Path
tail_of [] = []
tail_of (n ∷ p) = p

-- lists of paths that begin with names that stand once
pub once_by_head : {X Y : Type 0} (name : X → Name) (f : X → List Y) (path : Y → Path) → ((x : X) → IsOnce (map path (f x)))
    → ((x : X) (y : Y) → IsIn y (f x) → head_of (path y) ≡ name x)
    → (xs : List X) → IsOnce (map name xs) → IsOnce (map path (flat_map f xs))
once_by_head name f path each begins [] a = tt
once_by_head {X} {Y} name f path each begins (x ∷ xs) a =
    subst (λ ps. IsOnce ps) (sym (map-append path (f x) (flat_map f xs)))
    (once_append (map path (f x)) (map path (flat_map f xs)) (each x) (once_by_head name f path each begins xs a.1) (λ p i j.
    let u = from_map path p (f x) i in
    let v = from_map path p (flat_map f xs) j in
    let y = from_flat_map f v.0 xs v.1 in
    let first : head_of p ≡ name x = ap head_of (sym u.2) ∙ begins x u.0 u.1 in
    a.0 (subst (λ n. IsIn n (map name xs)) (sym (ap head_of (sym v.2) ∙ begins y.0 v.0 y.2) ∙ first) (in_map name y.0 xs y.1))))

-- ---- look-ups

-- where keys stand once, what is looked up by its key is found
pub find_once : {X : Type 0} (key : X → Name) (xs : List X) (x : X) → IsOnce (map key xs) → IsIn x xs
    → find (λ y. bytes_eq (key x) (key y)) xs ≡ Some x
find_once key [] x a i = absurd i
find_once {X} key (y ∷ xs) x a (inl e) = search (rules, bytes_eq-Decides)
find_once {X} key (y ∷ xs) x a (inr i) = by_test (bytes_eq (key x) (key y)) refl (find_once key xs x a.1 i)
  where
    by_test : (b : Bool) → bytes_eq (key x) (key y) ≡ b → find (λ (z : X). bytes_eq (key x) (key z)) xs ≡ Some x
        → cond b (Some y) (find (λ (z : X). bytes_eq (key x) (key z)) xs) ≡ Some x
    by_test true t ih =
        absurd (a.0 (subst (λ n. IsIn n (map key xs)) ((bytes_eq-Decides (key x) (key y)).0 t) (in_map key x xs i)))
    by_test false t ih = ih

-- ---- words of which none is repeated

not_true : (b : Bool) (f : Fault) (fs : List Fault) → where_true b f ++ fs ≡ [] → b ≡ true → ⊥
not_true b f fs e t = cc

not_met : {X : Type 0} (word : X → Id) (met : Name → Bool) (n : Name) (xs : List X) → met n ≡ true
    → repeats_after met (map word xs) ≡ [] → IsIn n (map (λ x. (word x).name) xs) → ⊥
not_met word met n [] t e i = i
not_met word met n (x ∷ xs) t e (inl s) = not_true (met (word x).name) _ (repeats_after (λ n. met n || bytes_eq n (word x).name)
    (map word xs)) e (ap met s ∙ t)
not_met word met n (x ∷ xs) t e (inr i) =
    not_met word (λ n. met n || bytes_eq n (word x).name) n xs (or_left (met n) (bytes_eq n (word x).name) t)
    (none_right (where_true (met (word x).name) _) (repeats_after (λ n. met n || bytes_eq n (word x).name) (map word xs)) e) i

unrepeated : {X : Type 0} (word : X → Id) (met : Name → Bool) (xs : List X) → repeats_after met (map word xs) ≡ []
    → IsOnce (map (λ x. (word x).name) xs)
unrepeated word met [] e = tt
unrepeated word met (x ∷ xs) e =
    let n = (word x).name in
    let rest = none_right (where_true (met n) _) (repeats_after (λ m. met m || bytes_eq m n) (map word xs)) e in (
      λ i. not_met word (λ m. met m || bytes_eq m n) n xs (or_right (met n) (bytes_eq n n) ((bytes_eq-Decides n n).1 refl)) rest
          i,
      unrepeated word (λ m. met m || bytes_eq m n) xs rest,
    )

pub unrepeated_once : {X : Type 0} (word : X → Id) (xs : List X) → repeats (map word xs) ≡ []
    → IsOnce (map (λ x. (word x).name) xs)
unrepeated_once word xs e = unrepeated word (λ n. false) xs e
