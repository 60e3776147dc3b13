-- The first that passes a test, found by a walk.
use Rattle.explain.proofs.Common.{Bool, Edge, EndAt, FlatConnection, Found, IsFirstAt, IsFirstEnd, IsFirstOfLeaf, IsLeastEnd, IsLeastLock, IsSought, List, LockAt, None, Option, Some, Tables, ap, arith, cases_lt, domain_label, false, fits, inl, inr}
use Rattle.explain.proofs.Common.{length, lock_of_member, members_at, opens, refl, slice_get, subst, sym, true, true≢false, ℕ, ◌+◌, ◌<◌, ◌∙◌, ◌≡◌, ◌≤◌}
use Rattle.std.proofs.lemmas.Option.{slice_get_within}
use Rattle.adl_ast.specs.declared.component.Member.TheVariants as members
use Rattle.adl_meaning.specs.declared.flat.Leaf.{Leaf}
use Rattle.explain.specs.declared.search.Sought.{Sought}

some_one : {X : Type 0} (o : Option X) (x y : X) → o ≡ Some x → o ≡ Some y → y ≡ x
some_one o x y p q = cc

-- ---- in a list

module _ {X : Type 0} (p : ℕ → X → Bool) (xs : List X) where
  -- none at a lesser place passes
  abbrev pub Below : ℕ → Type 0
  Below i = (m : ℕ) (y : X) → m < i → slice_get xs m ≡ Some y → p m y ≡ true → ⊥

  pub below_more : (i : ℕ) (x : X) → slice_get xs i ≡ Some x → p i x ≡ false → Below i → Below (i + 1)
  below_more i x here fails below m y l at h = elim (cases_lt m i) [
    | inl less ↦ below m y less at h
    | inr ge ↦
        let same : m ≡ i = omega (arith, l, ge) in
        let there : slice_get xs i ≡ Some y = ap (slice_get xs) (sym same) ∙ at in
        let is : y ≡ x = some_one (slice_get xs i) x y here there in
        let P : X → Type 0 = λ z. p i z ≡ true in
        let Q : ℕ → Type 0 = λ k. p k y ≡ true in
        true≢false (sym (subst P is (subst Q same h)) ∙ fails)
  ]

  pub below_least : (i : ℕ) → Below i → (m : ℕ) (y : X) → slice_get xs m ≡ Some y → p m y ≡ true → i ≤ m
  below_least i below m y at h = elim (cases_lt m i) [ inl less ↦ absurd (below m y less at h) | inr ge ↦ ge ]

  pub below_all : (i : ℕ) → length xs ≤ i → Below i → (m : ℕ) (y : X) → slice_get xs m ≡ Some y → p m y ≡ true → ⊥
  below_all i le below m y at h = let l = slice_get_within xs m y at in below m y (omega (arith, l, le)) at h

-- ---- among all ends

module _ (t : Tables) (e : Edge) (s : Sought) where
  abbrev pub NoneBefore : ℕ → Type 0
  NoneBefore i = (y : EndAt t.flat) → y.place < i → IsSought t e s y → ⊥

  pub none_more : (i : ℕ) (c : FlatConnection) → slice_get t.flat.connections i ≡ Some c → IsFirstAt t e s i c None → NoneBefore i
      → NoneBefore (i + 1)
  none_more i c here none before y l sought = elim (cases_lt y.place i) [
    | inl less ↦ before y less sought
    | inr ge ↦
        let same : y.place ≡ i = omega (arith, l, ge) in
        let there : slice_get t.flat.connections i ≡ Some y.connection = ap (slice_get t.flat.connections) (sym same) ∙ y.here in
        let is : y.connection ≡ c = some_one (slice_get t.flat.connections i) c y.connection here there in
        let O : ℕ → FlatConnection → Type 0 = λ k d. opens t e s k d ≡ true in
        let F : ℕ → FlatConnection → Type 0 = λ k d. fits t e s k d y.number y.end ≡ true in
        let opened : O i c = subst (λ d. O i d) is (subst (λ k. O k y.connection) same sought.opened) in
        let fit : F i c = subst (λ d. F i d) is (subst (λ k. F k y.connection) same sought.fitting) in
        none opened y.number y.end (ap (λ (d : FlatConnection). slice_get d.ends y.number) (sym is) ∙ y.stands) fit
  ]

  pub least_at : (i : ℕ) (c : FlatConnection) (f : Found) → slice_get t.flat.connections i ≡ Some c → IsFirstAt t e s i c (Some f)
      → NoneBefore i → IsLeastEnd t e s f
  least_at i c f here first before =
      let on = first.1 in
      record {
        at = record { place = i; connection = c; here = here; number = on.0; end = on.1; stands = on.2 };
        is = on.4;
        sought = record { opened = first.0; fitting = on.3 };
        least = λ y sought. record {
          by_first = elim (cases_lt y.place i) [ inl less ↦ absurd (before y less sought) | inr ge ↦ ge ];
          by_second = λ same.
              let there : slice_get t.flat.connections i ≡ Some y.connection = ap (slice_get t.flat.connections) same ∙ y.here in
              let is : y.connection ≡ c = some_one (slice_get t.flat.connections i) c y.connection here there in
              let F : ℕ → FlatConnection → Type 0 = λ k d. fits t e s k d y.number y.end ≡ true in
              let fit : F i c = subst (λ d. F i d) is (subst (λ k. F k y.connection) (sym same) sought.fitting) in
              on.5 y.number y.end (ap (λ (d : FlatConnection). slice_get d.ends y.number) (sym is) ∙ y.stands) fit;
        };
      }

  pub none_all : (i : ℕ) → length t.flat.connections ≤ i → NoneBefore i → IsFirstEnd t e s None
  none_all i le before y sought = let l = slice_get_within t.flat.connections y.place y.connection y.here in
      before y (omega (arith, l, le)) sought

-- ---- locks

module _ (t : Tables) (label : ℕ) where
  abbrev pub NoLock : ℕ → Type 0
  NoLock i = (y : LockAt t.source t.flat) → y.leaf < i → domain_label t y.domain ≡ label → ⊥

  pub lock_more : (i : ℕ) (x : Leaf) → slice_get t.flat.leaves i ≡ Some x → IsFirstOfLeaf t label x None → NoLock i
      → NoLock (i + 1)
  lock_more i x here none before y l own = elim (cases_lt y.leaf i) [
    | inl less ↦ before y less own
    | inr ge ↦
        let same : y.leaf ≡ i = omega (arith, l, ge) in
        let there : slice_get t.flat.leaves i ≡ Some y.found = ap (slice_get t.flat.leaves) (sym same) ∙ y.here in
        let is : y.found ≡ x = some_one (slice_get t.flat.leaves i) x y.found here there in
        none y.domain (ap (λ (z : Leaf). z.domain) (sym is) ∙ y.inside) own y.member (members.Lock y.lock)
        (ap (λ (z : Leaf). slice_get (members_at t.source z.component) y.member) (sym is) ∙ y.declared) refl
  ]

  pub lock_least : (i : ℕ) (x : Leaf) (n : ℕ) → slice_get t.flat.leaves i ≡ Some x → IsFirstOfLeaf t label x (Some n) → NoLock i
      → IsLeastLock t label (i, n)
  lock_least i x n here first before =
      let m = first.3 in
      let k = lock_of_member m.0 m.2 in
      record {
        lock = record {
          leaf = i;
          found = x;
          here = here;
          domain = first.0;
          inside = first.1;
          member = n;
          lock = k.0;
          declared = m.1 ∙ ap (λ z. Some z) k.1;
        };
        is = refl;
        own = first.2;
        least = λ y own. record {
          by_first = elim (cases_lt y.leaf i) [ inl less ↦ absurd (before y less own) | inr ge ↦ ge ];
          by_second = λ same.
              let there : slice_get t.flat.leaves i ≡ Some y.found = ap (slice_get t.flat.leaves) same ∙ y.here in
              let is : y.found ≡ x = some_one (slice_get t.flat.leaves i) x y.found here there in
              m.3 y.member (members.Lock y.lock) (ap (λ (z : Leaf). slice_get (members_at t.source z.component) y.member) (sym is)
              ∙ y.declared) refl;
        };
      }

  pub lock_none : (i : ℕ) → length t.flat.leaves ≤ i → NoLock i → (y : LockAt t.source t.flat)
      → domain_label t y.domain ≡ label → ⊥
  lock_none i le before y own = let l = slice_get_within t.flat.leaves y.leaf y.found y.here in
      before y (omega (arith, l, le)) own
