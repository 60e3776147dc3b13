-- Objects whose names differ are given back the labels that stand beside their names.
use Rattle.std.proofs.Common.{rules}
use Rattle.camkes_tool.proofs.BackCommon.{Entry, List, Some, [], ap, find, find_only, from_get_map, from_ones, get_map, get_ones, get_or_from_slice_get, label_of, labelled, map, object_label, option_map, refl, slice_get, suc, sym, ℕ, ◌∙◌, ◌∷◌, ◌≡◌}
use Rattle.std.proofs.lemmas.Simd.{map-map}
use Rattle.std.proofs.lemmas.Slice.Eq.{bytes_eq-Decides}
use Rattle.std.specs.Str.{bytes_eq}

pub map_same : {X Y : Type 0} (f g : X → Y) (xs : List X) → ((n : ℕ) (x : X) → slice_get xs n ≡ Some x → f x ≡ g x)
    → map f xs ≡ map g xs
map_same f g [] h = refl
map_same f g (x ∷ xs) h = ap (λ z. z ∷ map f xs) (h 0 x refl) ∙ ap (λ z. g x ∷ z) (map_same f g xs (λ n y e. h (suc n) y e))

-- things that have entries and labels
module _ {X : Type 0} (entry : X → Entry) (label : X → ℕ) (xs : List X)
    (differ : (m n : ℕ) (x y : X) → slice_get xs m ≡ Some x → slice_get xs n ≡ Some y → (entry x).name ≡ (entry y).name
    → m ≡ n) where
  abbrev objects : List (List ℕ × ℕ)
  objects = labelled (map entry xs) (map label xs)

  abbrev line : ℕ → Entry → List ℕ × ℕ
  line n e = (e.name, label_of (map label xs) n)

  -- the object line at a place is of the thing there
  pub line_at : (m : ℕ) (o : List ℕ × ℕ) → slice_get objects m ≡ Some o → (x : X) × (slice_get xs m ≡ Some x)
      × (o.0 ≡ (entry x).name)
  line_at m o e =
      let a = from_ones line (map entry xs) m o e in
      let b = from_get_map entry xs m a.0 a.1 in
      (b.0, b.1, ap (λ (z : List ℕ × ℕ). z.0) (sym a.2) ∙ ap (λ (z : Entry). z.name) (sym b.2))

  label_back : (n : ℕ) (x : X) → slice_get xs n ≡ Some x → Some (label x) ≡ object_label objects (entry x).name
  label_back n x at =
      let number : label_of (map label xs) n ≡ label x = get_or_from_slice_get (map label xs) n (label x) 0
      (get_map label xs n x at) in
      let here : slice_get objects n ≡ Some (line n (entry x)) =
      get_ones line (map entry xs) n (entry x) (get_map entry xs n x at) in
      let found : find (λ o. bytes_eq o.0 (entry x).name) objects ≡ Some (line n (entry x)) =
      search (rules, find_only, bytes_eq-Decides, line_at) in
      ap (λ z. Some z) (sym number) ∙ ap (option_map (λ (o : List ℕ × ℕ). o.1)) (sym found)

  pub labels_back : map (λ n. Some n) (map label xs) ≡ map (λ (e : Entry). object_label objects e.name) (map entry xs)
  labels_back = map-map (λ n. Some n) label xs ∙ map_same (λ x. Some (label x)) (λ x. object_label objects (entry x).name) xs
      label_back ∙ sym (map-map (λ (e : Entry). object_label objects e.name) entry xs)
