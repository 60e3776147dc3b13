-- What names stand for is there.
use Rattle.std.proofs.Common.{rules}
use Rattle.capdl_read.proofs.Common.{Arch, Bool, CapdlTwice, Id, Known, List, ObjectLine, Some, [], ap, arith, at_id, bytes_eq, bytes_eq-Decides, cond, differ, false, known_as, known_from, list_any, map, names_after, names_twice, nil_append, not}
use Rattle.capdl_read.proofs.Common.{not-true, or_parts, refl, slice_get, suc, sym, true, zero, ℕ, ◌&&◌, ◌+◌, ◌||◌, ◌∙◌, ◌∷◌, ◌≡◌}
use Rattle.capdl_read.proofs.Nothing.{is_false}

abbrev pub Name : Type 0
Name = List ℕ

-- no later one is met
pub NoneMet : (Name → Bool) → List Id → Type 0
NoneMet met [] = Unit {0}
NoneMet met (id ∷ ids) = (met id.name ≡ false) × NoneMet met ids

none_met : (met : Name → Bool) (m : Name) (ids : List Id) → NoneMet (λ n. met n || bytes_eq n m) ids
    → NoneMet met ids × (list_any (λ n. bytes_eq n m) (map (λ i. i.name) ids) ≡ false)
unfolding NoneMet
none_met met m [] h = (tt, refl)
none_met met m (id ∷ ids) h =
    let k = or_parts (met id.name) (bytes_eq id.name m) h.0 in
    let r = none_met met m ids h.1 in
    ((k.0, r.0), rw (k.1, r.1) refl)

once : (met : Name → Bool) (ids : List Id) → names_after met ids ≡ []
    → NoneMet met ids × (differ bytes_eq (map (λ i. i.name) ids) ≡ true)
unfolding NoneMet
once met [] e = (tt, refl)
once met (id ∷ ids) e =
    let p = nil_append (cond (met id.name) (at_id CapdlTwice id ∷ []) [])
    (names_after (λ n. met n || bytes_eq n id.name) ids) e in
    let r = once (λ n. met n || bytes_eq n id.name) ids p.1 in
    let k = none_met met id.name ids r.0 in
    ((is_false (met id.name) (at_id CapdlTwice id) p.0, k.0), rw (k.1, r.1) refl)

-- names that stand once differ
pub names_differ : (ids : List Id) → names_twice ids ≡ [] → differ bytes_eq (map (λ i. i.name) ids) ≡ true
names_differ ids e = (once (λ n. false) ids e).1

-- what a name stands for is there
pub known_there : (arch : Arch) (place : ℕ) (os : List ObjectLine) (n : Name) (k : Known) → known_from arch place os n ≡ Some k
    → (j : ℕ) × (o : ObjectLine) × (slice_get os j ≡ Some o) × (k ≡ known_as arch (place + j) o) × (n ≡ o.id.name)
known_there arch place [] n k e = absurd cc
known_there arch place (o ∷ os) n k e = by_test (bytes_eq n o.id.name) refl e (known_there arch (place + 1) os n k)
  where
    by_test : (b : Bool) → bytes_eq n o.id.name ≡ b
        → cond b (Some (known_as arch place o)) (known_from arch (place + 1) os n) ≡ Some k
        → (known_from arch (place + 1) os n ≡ Some k → (j : ℕ) × (q : ObjectLine) × (slice_get os j ≡ Some q)
        × (k ≡ known_as arch ((place + 1) + j) q) × (n ≡ q.id.name))
        → (j : ℕ) × (q : ObjectLine) × (slice_get (o ∷ os) j ≡ Some q) × (k ≡ known_as arch (place + j) q) × (n ≡ q.id.name)
    by_test true t p ih = (
      0,
      o,
      refl,
      (let s : known_as arch place o ≡ k = cc in sym s) ∙ ap (λ i. known_as arch i o)
          (let z : place ≡ place + 0 = omega arith in z),
      (bytes_eq-Decides n o.id.name).0 t,
    )
    by_test false t p ih = let r = ih p in (
      suc r.0,
      r.1,
      r.2,
      r.3 ∙ ap (λ i. known_as arch i r.1) (let z : (place + 1) + r.0 ≡ place + suc r.0 = omega arith in z),
      r.4,
    )

-- an object is found under its own name
pub known_here : (arch : Arch) (place : ℕ) (os : List ObjectLine) (j : ℕ) (o : ObjectLine)
    → differ bytes_eq (map (λ i. i.name) (map (λ o. o.id) os)) ≡ true → slice_get os j ≡ Some o
    → known_from arch place os o.id.name ≡ Some (known_as arch (place + j) o)
known_here arch place [] j o d g = absurd cc
known_here arch place (q ∷ os) zero o d g = search (rules, bytes_eq-Decides)
known_here arch place (q ∷ os) (suc j) o d g =
    let k = parts (not (list_any (λ n. bytes_eq n q.id.name) (map (λ i. i.name) (map (λ o. o.id) os))))
    (differ bytes_eq (map (λ i. i.name) (map (λ o. o.id) os))) d in
    let apart : bytes_eq o.id.name q.id.name ≡ false = other os j g (not-true _ k.0) in
    rw apart (known_here arch (place + 1) os j o k.1 g ∙ ap (λ i. Some (known_as arch i o))
    (let z : (place + 1) + j ≡ place + suc j = omega arith in z))
  where
    parts : (a b : Bool) → (a && b) ≡ true → (a ≡ true) × (b ≡ true)
    parts true b e = (refl, e)
    parts false b e = absurd cc

    other : (os : List ObjectLine) (j : ℕ) → slice_get os j ≡ Some o
        → list_any (λ n. bytes_eq n q.id.name) (map (λ i. i.name) (map (λ o. o.id) os)) ≡ false
        → bytes_eq o.id.name q.id.name ≡ false
    other [] j g h = absurd cc
    other (p ∷ os) zero g h = let s : p ≡ o = cc in rw (← s) (or_parts (bytes_eq p.id.name q.id.name) _ h).0
    other (p ∷ os) (suc j) g h = other os j g (or_parts (bytes_eq p.id.name q.id.name) _ h).1
