-- Which images clash, section by section.
use Rattle.source_images.proofs.Common.{Bool, IsPermutation, List, Placed, [], and-false, ap, arith, at_drop_all, clashes, clashes_with, drop, drop_first, eq-eqb, false, get_or, get_or-set_other, get_or-set_same, length, length-map, list_any}
use Rattle.source_images.proofs.Common.{list_any-IsPermutation, list_any-map, map, nat_eq, or-false, placed_told, refl, region_of, replicate, rules, sections_told, set, shares, suc, sym, true, zero, ℕ, ◌&&◌, ◌+◌, ◌<◌, ◌||◌, ◌∙◌, ◌∷◌, ◌≡◌, ◌≤◌}
use Rattle.name_tables.specs.declared.region.Region.{Region}
use Rattle.source_images.specs.declared.sections.Placed.{Placed as Given}

-- whether one of some sections is the image's, and has a page of another one of all
abbrev pub clashes_among : List Placed → List Placed → ℕ → Bool
clashes_among all xs m = list_any (λ x. nat_eq x.image m && list_any (clashes_with x) all) xs

-- what the index of all pages says of a section
pub any-shares : (all : List Placed) (x : Placed) (index : List Region) → IsPermutation (map region_of all) index
    → list_any (shares (region_of x)) index ≡ list_any (clashes_with x) all
any-shares all x index h = sym (list_any-IsPermutation (shares (region_of x)) (map region_of all) index h)
    ∙ list_any-map (shares (region_of x)) region_of all

-- a section alone clashes with none
pub none_clash : (all : List Placed) → length all < 2 → (m : ℕ) → clashes all m ≡ false
none_clash [] l m = refl
none_clash (x ∷ []) l m = search (rules, nat_eq, eq-eqb, and-false)
none_clash (x ∷ y ∷ all) l m = absurd (omega arith)

unmarked_all : (n m : ℕ) → get_or (replicate n false) m false ≡ false
unmarked_all zero m = refl
unmarked_all (suc n) zero = refl
unmarked_all (suc n) (suc m) = unmarked_all n m

pub alone : (ps : List Given) (marks : List Bool) (n m : ℕ) → length ps < 2 → marks ≡ replicate n false
    → get_or marks m false ≡ clashes (sections_told ps) m
alone ps marks n m l e = ap (λ z. get_or z m false) e ∙ unmarked_all n m
    ∙ sym (none_clash (sections_told ps) (omega (arith, l, length-map ps placed_told)) m)

step_true : (b e r : Bool) → e ≡ true → true || r ≡ b || ((e && true) || r)
step_true true e r s = refl
step_true false e r s = sym (ap (λ z. (z && true) || r) s)

step_false : (b e r : Bool) → e ≡ false → b || r ≡ b || ((e && true) || r)
step_false true e r s = refl
step_false false e r s = sym (ap (λ z. (z && true) || r) s)

-- the mark of an image, where image k is marked for a section that clashes
marked : (marks : List Bool) (k m : ℕ) (t r : Bool) → t ≡ true → k < length marks → get_or (set marks k true) m false
    || r ≡ get_or marks m false || ((nat_eq k m && t) || r)
marked marks k m t r s l = search (rules, set, get_or-set_same, step_true, nat_eq, eq-eqb, get_or-set_other, step_false)

-- and where it is not
unmarked : (b e t r : Bool) → t ≡ false → b || r ≡ b || ((e && t) || r)
unmarked b e t r s = sym (ap (λ z. b || ((e && z) || r)) s ∙ ap (λ z. b || (z || r)) (and-false e))

-- the turn of a loop over sections, of which those before place i are marked
module _ (all : List Placed) (ps : List Given) (i : ℕ) (p : Given) (marks : List Bool) (l : i < length ps) (e : p ≡ get_or ps i p)
    (done : (m : ℕ) → get_or marks m false || clashes_among all (sections_told (drop i ps)) m ≡ clashes all m) where
  next : (m : ℕ) → get_or marks m false || ((nat_eq p.image m && list_any (clashes_with (placed_told p)) all)
      || clashes_among all (sections_told (drop (i + 1) ps)) m) ≡ clashes all m
  next m = ap (λ z. get_or marks m false || clashes_among all (sections_told z) m) (sym (drop_first ps i p l e)) ∙ done m

  pub marked_turn : list_any (clashes_with (placed_told p)) all ≡ true → p.image < length marks
      → (m : ℕ) → get_or (set marks p.image true) m false || clashes_among all (sections_told (drop (i + 1) ps)) m ≡ clashes all m
  marked_turn t k m = marked marks p.image m (list_any (clashes_with (placed_told p)) all)
      (clashes_among all (sections_told (drop (i + 1) ps)) m) t k ∙ next m

  pub unmarked_turn : list_any (clashes_with (placed_told p)) all ≡ false → (m : ℕ)
      → get_or marks m false || clashes_among all (sections_told (drop (i + 1) ps)) m ≡ clashes all m
  unmarked_turn t m = unmarked (get_or marks m false) (nat_eq p.image m) (list_any (clashes_with (placed_told p)) all)
      (clashes_among all (sections_told (drop (i + 1) ps)) m) t ∙ next m

-- where all sections have been looked at
pub all_marked : (all : List Placed) (ps : List Given) (i m : ℕ) (b : Bool) → length ps ≤ i
    → b || clashes_among all (sections_told (drop i ps)) m ≡ clashes all m → b ≡ clashes all m
all_marked all ps i m b l e = sym (or-false b)
    ∙ ap (λ z. b || z) (sym (at_drop_all (λ z. clashes_among all (sections_told z) m) ps i l)) ∙ e
