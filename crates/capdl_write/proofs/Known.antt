-- What the names of a canonical text stand for: each for the object that has it.
use Rattle.std.proofs.Common.{rules}
use Rattle.capdl_write.proofs.Common.{Arch, Bool, CNode, Entry, Irq, Known, Knows, List, None, Object, Option, Pages, Piece, Some, Span, Spec, [], and_parts, ap, arith, bytes_eq, bytes_eq-Decides, entry_name}
use Rattle.capdl_write.proofs.Common.{entry_object, false, kind_of_object, known_as, known_from, list_all, list_any, map, name_at, names_differ, node_size, not, not-true, object_at, refl, size, slice_get, suc, true, zero, ℕ, ◌&&◌}
use Rattle.capdl_write.proofs.Common.{◌+◌, ◌||◌, ◌∙◌, ◌∷◌, ◌≡◌}
use Rattle.capdl_write.proofs.ReadBack.{object_at as line_at, objects_at}

-- how many numbered slots an object has
abbrev pub entry_size : Arch → Object → Option ℕ
entry_size arch (CNode bits slots) = node_size bits
entry_size arch (Pages level slots) = size arch level
entry_size arch (Irq notification) = Some 1
entry_size arch _ = None

abbrev pub known_object : Arch → ℕ → Object → Known
known_object arch place o = record { place = place; kind = kind_of_object o; size = entry_size arch o }

-- no other one has this name
abbrev pub is_other : List ℕ → List Entry → Bool
is_other name es = list_all (λ e. not (bytes_eq e.name name)) es

pub any_none : {A B : Type 0} (f : A → B) (p : B → Bool) (xs : List A) → list_any p (map f xs) ≡ false
    → list_all (λ (x : A). not (p (f x))) xs ≡ true
any_none {A} {B} f p [] h = refl
any_none {A} {B} f p (x ∷ xs) h = go (p (f x)) (list_any p (map f xs)) h (λ k. any_none f p xs k)
  where
    go : (a b : Bool) → (a || b) ≡ false → (b ≡ false → list_all (λ (x : A). not (p (f x))) xs ≡ true)
        → (not a && list_all (λ (x : A). not (p (f x))) xs) ≡ true
    go true b e ih = absurd cc
    go false b e ih = ih e

pub differ_parts : (e : Entry) (es : List Entry) → names_differ (e ∷ es) ≡ true → (is_other e.name es ≡ true)
    × (names_differ es ≡ true)
differ_parts e es d =
    let k = and_parts (not (list_any (λ n. bytes_eq n e.name) (map (λ e. e.name) es))) (names_differ es) d in
    (any_none (λ (d : Entry). d.name) (λ n. bytes_eq n e.name) es (not-true _ k.0), k.1)

other_at : (name : List ℕ) (es : List Entry) (j : ℕ) (e : Entry) → is_other name es ≡ true → slice_get es j ≡ Some e
    → bytes_eq e.name name ≡ false
other_at name [] j e h g = absurd cc
other_at name (q ∷ es) zero e h g = let s : q ≡ e = cc in
    rw (← s) (not-true _ (and_parts (not (bytes_eq q.name name)) (is_other name es) h).0)
other_at name (q ∷ es) (suc j) e h g = other_at name es j e (and_parts (not (bytes_eq q.name name)) (is_other name es) h).1 g

module _ (pl : List Piece → Span) where
  line_known : (arch : Arch) (place : ℕ) (name : List ℕ) (o : Object) (more : List Piece)
      → known_as arch place (line_at pl name o more) ≡ known_object arch place o
  line_known arch place name (Pages level slots) more = refl
  line_known arch place name _ more = refl

  -- each name stands for the object that has it
  pub found_at : (arch : Arch) (place : ℕ) (es : List Entry) (more : List Piece) (j : ℕ) (e : Entry) → names_differ es ≡ true
      → slice_get es j ≡ Some e → known_from arch place (objects_at pl es more) e.name ≡ Some
      (known_object arch (place + j) e.object)
  found_at arch place [] more j e d g = absurd cc
  found_at arch place (q ∷ es) more zero e d g = grind (arith, bytes_eq-Decides, objects_at, line_known)
  found_at arch place (q ∷ es) more (suc j) e d g =
      let k = differ_parts q es d in
      rw (other_at q.name es j e k.0 g) (found_at arch (place + 1) es more j e k.1 g
      ∙ ap (λ p. Some (known_object arch p e.object)) (let z : (place + 1) + j ≡ place + suc j = omega arith in z))

-- each name of the spec stands for its object
abbrev pub KnowsAll : Spec → Knows → Type 0
KnowsAll spec known = (j : ℕ) (e : Entry) → slice_get spec.entries j ≡ Some e
    → known e.name ≡ Some (known_object spec.arch j e.object)

pub known_place : (spec : Spec) (known : Knows) → KnowsAll spec known → (place : ℕ) (o : Object) → object_at spec place ≡ Some o
    → known (name_at spec place) ≡ Some (known_object spec.arch place o)
known_place spec known all place o h = search (rules, slice_get)
