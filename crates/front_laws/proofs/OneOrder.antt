-- The orders of paths and of connections go one way, and lists in such an order are told by what is in them.
use Rattle.front_laws.proofs.Common.{Hierarchy, InOrder, IsBefore, IsIn, IsOnce, IsPathBefore, IsWireBefore, List, Name, Part, Path, Some, [], ap, arith, at_names, body, by_instances, deeper, get_behind, in_one, in_place, inl, inr, length, map}
use Rattle.front_laws.proofs.Common.{name_of, outer_first, part_named, refl, rules, subst, suc, sym, wires_of, within_one, zero, ℕ, ◌++◌, ◌+◌, ◌∙◌, ◌∷◌, ◌≡◌, ◌≤◌, ◌⊎◌}
use Rattle.adl_meaning.specs.Prelude.{slice_get}

-- ---- lists

pub same_order : {X : Type 0} (R : X → X → Type 0) → ((x y : X) → R x y → R y x → ⊥) → (xs ys : List X) → InOrder R xs
    → InOrder R ys → ((x : X) → IsIn x xs → IsIn x ys) → ((x : X) → IsIn x ys → IsIn x xs) → xs ≡ ys
same_order R one_way [] [] a b to from = refl
same_order R one_way [] (y ∷ ys) a b to from = absurd (from y (inl refl))
same_order R one_way (x ∷ xs) [] a b to from = absurd (to x (inl refl))
same_order {X} R one_way (x ∷ xs) (y ∷ ys) a b to from =
    let heads : x ≡ y = elim (to x (inl refl)) [
      | inl e ↦ sym e
      | inr i ↦ elim (from y (inl refl)) [ inl e ↦ e | inr j ↦ absurd (one_way x y (a.0 y j) (b.0 x i)) ]
    ] in
    ap (λ z. z ∷ xs) heads ∙ ap (λ z. y ∷ z) (same_order R one_way xs ys a.1 b.1
    (λ z i. elim (to z (inr i)) [
      | inl e ↦ let P : X → Type 0 = λ u. R x u in let r = subst P (sym e ∙ sym heads) (a.0 z i) in absurd (one_way x x r r)
      | inr j ↦ j
    ])
    (λ z j. elim (from z (inr j)) [
      | inl e ↦ let P : X → Type 0 = λ u. R y u in let r = subst P (sym e ∙ heads) (b.0 z j) in absurd (one_way y y r r)
      | inr i ↦ i
    ]))

pub once_place : {X : Type 0} (xs : List X) (i j : ℕ) (x : X) → IsOnce xs → slice_get xs i ≡ Some x
    → slice_get xs j ≡ Some x → i ≡ j
once_place [] i j x a e f = cc
once_place (y ∷ ys) zero zero x a e f = refl
once_place {X} (y ∷ ys) zero (suc j) x a e f = let same : y ≡ x = cc in let P : X → Type 0 = λ z. IsIn z ys in
    absurd (a.0 (subst P (sym same) (in_place x ys j f)))
once_place {X} (y ∷ ys) (suc i) zero x a e f = let same : y ≡ x = cc in let P : X → Type 0 = λ z. IsIn z ys in
    absurd (a.0 (subst P (sym same) (in_place x ys i e)))
once_place (y ∷ ys) (suc i) (suc j) x a e f = ap suc (once_place ys i j x a.1 e f)

-- in a list in which nothing stands twice
pub before_once : {X : Type 0} (xs : List X) (a b : X) → IsOnce xs → IsBefore xs a b → IsBefore xs b a → ⊥
before_once {X} xs a b once s t =
    let P : List X → Type 0 = λ z. slice_get z (length s.front) ≡ Some a in
    let Q : List X → Type 0 = λ z. slice_get z (length s.front + suc (length s.between)) ≡ Some b in
    let R : List X → Type 0 = λ z. slice_get z (length t.front) ≡ Some b in
    let S : List X → Type 0 = λ z. slice_get z (length t.front + suc (length t.between)) ≡ Some a in
    let a1 = subst P (sym s.split) (get_behind s.front (a ∷ (s.between ++ b ∷ s.rest)) 0 (length s.front) (omega arith)) in
    let b1 = subst Q (sym s.split) (get_behind s.front (a ∷ (s.between ++ b ∷ s.rest)) (suc (length s.between))
    (length s.front + suc (length s.between)) refl ∙ get_behind s.between (b ∷ s.rest) 0 (length s.between) (omega arith)) in
    let b2 = subst R (sym t.split) (get_behind t.front (b ∷ (t.between ++ a ∷ t.rest)) 0 (length t.front) (omega arith)) in
    let a2 = subst S (sym t.split) (get_behind t.front (b ∷ (t.between ++ a ∷ t.rest)) (suc (length t.between))
    (length t.front + suc (length t.between)) refl ∙ get_behind t.between (a ∷ t.rest) 0 (length t.between) (omega arith)) in
    let p = once_place xs (length s.front) (length t.front + suc (length t.between)) a once a1 a2 in
    omega (arith, p, once_place xs (length t.front) (length s.front + suc (length s.between)) b once b2 b1)

-- ---- paths

-- two paths, of which the one stands first, by their first names
record PathStep (h : Hierarchy) (k : ℕ) (p q : Path) : Type 0 where
  n : Name
  m : Name
  p' : Path
  q' : Path
  first : p ≡ n ∷ p'
  second : q ≡ m ∷ q'
  why : IsBefore (map name_of (body h k).parts) n m
      ⊎ ((n ≡ m) × ((x : Part) × (part_named (body h k).parts n ≡ Some x) × IsPathBefore h x.kind p' q'))

path_step : (h : Hierarchy) (k : ℕ) (p q : Path) → IsPathBefore h k p q → PathStep h k p q
path_step h k p q (at_names k' n m p' q' b) = record { n = n; m = m; p' = p'; q' = q'; first = refl; second = refl; why = inl b }
path_step h k p q (within_one k' n x p' q' e r) = search (rules)

abbrev AreNamedOnce : Hierarchy → Type 0
AreNamedOnce h = (k : ℕ) → IsOnce (map name_of (body h k).parts)

steps_one_way : (h : Hierarchy) → AreNamedOnce h → (l k : ℕ) (p q : Path) → length p ≤ suc l → PathStep h k p q → PathStep h k q p
    → ((i : ℕ) (s t : Path) → length s ≤ l → IsPathBefore h i s t → IsPathBefore h i t s → ⊥) → ⊥
steps_one_way h once l k p q low a b inner = by_why a.why b.why
  where
    heads : (a.n ≡ b.m) × (a.p' ≡ b.q')
    heads = let e = a.first in let f = b.second in (cc, cc)

    tails : (a.m ≡ b.n) × (a.q' ≡ b.p')
    tails = let e = a.second in let f = b.first in (cc, cc)

    by_why : IsBefore (map name_of (body h k).parts) a.n a.m
        ⊎ ((a.n ≡ a.m) × ((x : Part) × (part_named (body h k).parts a.n ≡ Some x) × IsPathBefore h x.kind a.p' a.q'))
        → IsBefore (map name_of (body h k).parts) b.n b.m
        ⊎ ((b.n ≡ b.m) × ((x : Part) × (part_named (body h k).parts b.n ≡ Some x) × IsPathBefore h x.kind b.p' b.q')) → ⊥
    by_why (inl r) (inl s) =
        let P : Name → Type 0 = λ z. IsBefore (map name_of (body h k).parts) z b.m in
        let Q : Name → Type 0 = λ z. IsBefore (map name_of (body h k).parts) a.m z in
        before_once (map name_of (body h k).parts) a.n a.m (once k) r (subst Q (sym heads.0) (subst P (sym tails.0) s))
    by_why (inl r) (inr (e, x)) =
        let P : Name → Type 0 = λ z. IsBefore (map name_of (body h k).parts) a.n z in
        let s = subst P (tails.0 ∙ e ∙ sym heads.0) r in before_once (map name_of (body h k).parts) a.n a.n (once k) s s
    by_why (inr (e, x)) (inl r) =
        let P : Name → Type 0 = λ z. IsBefore (map name_of (body h k).parts) b.n z in
        let s = subst P (sym heads.0 ∙ e ∙ tails.0) r in before_once (map name_of (body h k).parts) b.n b.n (once k) s s
    by_why (inr (e, x)) (inr (f, y)) = search (rules, tails, heads)

pub paths_one_way : (h : Hierarchy) → AreNamedOnce h → (l k : ℕ) (p q : Path) → length p ≤ l → IsPathBefore h k p q
    → IsPathBefore h k q p → ⊥
paths_one_way h once zero k p q low a b = let s = path_step h k p q a in let e : length p ≡ suc (length s.p') =
    ap length s.first in omega (arith, low, e)
paths_one_way h once (suc l) k p q low a b = steps_one_way h once l k p q low (path_step h k p q a) (path_step h k q p b)
    (λ i s t m u v. paths_one_way h once l i s t m u v)

-- ---- connections

abbrev wire_names : Hierarchy → ℕ → List Name
wire_names h k = map (λ w. w.1.id.name) (wires_of (body h k))

-- two connections, of which the one stands first: by the names of connections, or by those of instances
record InOne (h : Hierarchy) (k : ℕ) (p : Path) (a : Name) (q : Path) (b : Name) : Type 0 where
  first : p ≡ []
  second : q ≡ []
  before : IsBefore (wire_names h k) a b

record IsOuter (p q : Path) : Type 0 where
  n : Name
  q' : Path
  first : p ≡ []
  second : q ≡ n ∷ q'

record ByInstances (h : Hierarchy) (k : ℕ) (p : Path) (a : Name) (q : Path) (b : Name) : Type 0 where
  n : Name
  m : Name
  p' : Path
  q' : Path
  first : p ≡ n ∷ p'
  second : q ≡ m ∷ q'
  why : IsBefore (map name_of (body h k).parts) n m
      ⊎ ((n ≡ m) × ((x : Part) × (part_named (body h k).parts n ≡ Some x) × IsWireBefore h x.kind p' a q' b))

abbrev WireStep : Hierarchy → ℕ → Path → Name → Path → Name → Type 0
WireStep h k p a q b = InOne h k p a q b ⊎ (IsOuter p q ⊎ ByInstances h k p a q b)

wire_step : (h : Hierarchy) (k : ℕ) (p : Path) (a : Name) (q : Path) (b : Name) → IsWireBefore h k p a q b → WireStep h k p a q b
wire_step h k p a q b (in_one k' a' b' r) = inl (record { first = refl; second = refl; before = r })
wire_step h k p a q b (outer_first k' a' b' n q') = inr (inl (record { n = n; q' = q'; first = refl; second = refl }))
wire_step h k p a q b (by_instances k' n m a' b' p' q' r) =
    inr (inr (record { n = n; m = m; p' = p'; q' = q'; first = refl; second = refl; why = inl r }))
wire_step h k p a q b (deeper k' n a' b' x p' q' e r) =
    inr (inr (record { n = n; m = n; p' = p'; q' = q'; first = refl; second = refl; why = inr (refl, (x, e, r)) }))

empty_not : (p : Path) (n : Name) (q : Path) → p ≡ [] → p ≡ n ∷ q → ⊥
empty_not p n q e f = cc

instances_one_way : (h : Hierarchy) → AreNamedOnce h → (l k : ℕ) (p : Path) (a : Name) (q : Path) (b : Name) → length p ≤ suc l
    → ByInstances h k p a q b → ByInstances h k q b p a
    → ((i : ℕ) (s : Path) (t : Path) → length s ≤ l → IsWireBefore h i s a t b → IsWireBefore h i t b s a → ⊥) → ⊥
instances_one_way h once l k p a q b low c d inner = by_why c.why d.why
  where
    heads : (c.n ≡ d.m) × (c.p' ≡ d.q')
    heads = let e = c.first in let f = d.second in (cc, cc)

    tails : (c.m ≡ d.n) × (c.q' ≡ d.p')
    tails = let e = c.second in let f = d.first in (cc, cc)

    by_why : IsBefore (map name_of (body h k).parts) c.n c.m
        ⊎ ((c.n ≡ c.m) × ((x : Part) × (part_named (body h k).parts c.n ≡ Some x) × IsWireBefore h x.kind c.p' a c.q' b))
        → IsBefore (map name_of (body h k).parts) d.n d.m
        ⊎ ((d.n ≡ d.m) × ((x : Part) × (part_named (body h k).parts d.n ≡ Some x) × IsWireBefore h x.kind d.p' b d.q' a)) → ⊥
    by_why (inl r) (inl s) =
        let P : Name → Type 0 = λ z. IsBefore (map name_of (body h k).parts) z d.m in
        let Q : Name → Type 0 = λ z. IsBefore (map name_of (body h k).parts) c.m z in
        before_once (map name_of (body h k).parts) c.n c.m (once k) r (subst Q (sym heads.0) (subst P (sym tails.0) s))
    by_why (inl r) (inr (e, x)) =
        let P : Name → Type 0 = λ z. IsBefore (map name_of (body h k).parts) c.n z in
        let s = subst P (tails.0 ∙ e ∙ sym heads.0) r in before_once (map name_of (body h k).parts) c.n c.n (once k) s s
    by_why (inr (e, x)) (inl r) =
        let P : Name → Type 0 = λ z. IsBefore (map name_of (body h k).parts) d.n z in
        let s = subst P (sym heads.0 ∙ e ∙ tails.0) r in before_once (map name_of (body h k).parts) d.n d.n (once k) s s
    by_why (inr (e, x)) (inr (f, y)) = search (rules, tails, heads)

wire_steps_one_way : (h : Hierarchy) → AreNamedOnce h → ((k : ℕ) → IsOnce (wire_names h k))
    → (l k : ℕ) (p : Path) (a : Name) (q : Path) (b : Name) → length p ≤ l → WireStep h k p a q b → WireStep h k q b p a
    → ((m : ℕ) → l ≡ suc m → (i : ℕ) (s : Path) (t : Path) → length s ≤ m → IsWireBefore h i s a t b
    → IsWireBefore h i t b s a → ⊥) → ⊥
wire_steps_one_way h once wires l k p a q b low (inl c) (inl d) inner =
    before_once (wire_names h k) a b (wires k) c.before d.before
wire_steps_one_way h once wires l k p a q b low (inl c) (inr (inl d)) inner = empty_not p d.n d.q' c.first d.second
wire_steps_one_way h once wires l k p a q b low (inl c) (inr (inr d)) inner = empty_not p d.m d.q' c.first d.second
wire_steps_one_way h once wires l k p a q b low (inr (inl c)) (inl d) inner = empty_not q c.n c.q' d.first c.second
wire_steps_one_way h once wires l k p a q b low (inr (inl c)) (inr (inl d)) inner = empty_not p d.n d.q' c.first d.second
wire_steps_one_way h once wires l k p a q b low (inr (inl c)) (inr (inr d)) inner = empty_not p d.m d.q' c.first d.second
wire_steps_one_way h once wires l k p a q b low (inr (inr c)) (inl d) inner = empty_not p c.n c.p' d.second c.first
wire_steps_one_way h once wires l k p a q b low (inr (inr c)) (inr (inl d)) inner = empty_not q c.m c.q' d.first c.second
wire_steps_one_way h once wires zero k p a q b low (inr (inr c)) (inr (inr d)) inner = let e : length p ≡ suc (length c.p') =
    ap length c.first in omega (arith, low, e)
wire_steps_one_way h once wires (suc l) k p a q b low (inr (inr c)) (inr (inr d)) inner =
    instances_one_way h once l k p a q b low c d (inner l refl)

pub wires_one_way : (h : Hierarchy) → AreNamedOnce h → ((k : ℕ) → IsOnce (wire_names h k))
    → (l k : ℕ) (p : Path) (a : Name) (q : Path) (b : Name) → length p ≤ l
    → IsWireBefore h k p a q b → IsWireBefore h k q b p a → ⊥
wires_one_way h once wires zero k p a q b low r s =
    wire_steps_one_way h once wires zero k p a q b low (wire_step h k p a q b r) (wire_step h k q b p a s)
    (λ m e. absurd (omega (arith, e)))
wires_one_way h once wires (suc l) k p a q b low r s =
    wire_steps_one_way h once wires (suc l) k p a q b low (wire_step h k p a q b r) (wire_step h k q b p a s)
    (λ m e i t u less x y. let same : l ≡ m = omega (arith, e) in
    wires_one_way h once wires l i t a u b (omega (arith, less, same)) x y)
