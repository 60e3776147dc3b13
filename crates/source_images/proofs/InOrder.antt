-- Sections by address.
use Rattle.source_images.proofs.Common.{AreApart, Bool, Image, Images, IsIn, IsNonDecreasingBy, IsPermutation, IsPermutation-cons, IsPermutation-map, IsPermutation-middle, IsPermutation-refl, IsPermutation-trans, List, Placed, Some, [], ap, arith}
use Rattle.source_images.proofs.Common.{by_address, cond, false, get_or, leb, leb-false, leb-true, length, name_of, option_map_or, placed_told, put_section, refl, rules, sections_of, sections_told, slice_get, subst, sym, true, ℕ, ⊎_elim, ◌<◌, ◌∷◌, ◌≡◌, ◌≤◌}
use Rattle.source_images.specs.declared.sections.Placed.{Placed as Given}
use Rattle.source_images.proofs.Apart.{address, addresses_differ}
use Rattle.source_images.proofs.SectionsTold.{told_at}
use Rattle.source_images.proofs.Sorting.{Climbs, climbs_in_order, in_permutation, later_map, same_order}

-- ---- insertion moves sections, and puts them in order

moved_by : (b : Bool) (x y : Placed) (ys zs : List Placed) → IsPermutation (x ∷ ys) zs
    → IsPermutation (x ∷ y ∷ ys) (cond b (x ∷ y ∷ ys) (y ∷ zs))
moved_by true x y ys zs p = IsPermutation-refl (x ∷ y ∷ ys)
moved_by false x y ys zs p = IsPermutation-trans (x ∷ y ∷ ys) (y ∷ x ∷ ys) (y ∷ zs) (IsPermutation-middle (x ∷ []) y ys)
    (IsPermutation-cons y (x ∷ ys) zs p)

put_moves : (x : Placed) (ys : List Placed) → IsPermutation (x ∷ ys) (put_section x ys)
put_moves x [] = IsPermutation-refl (x ∷ [])
put_moves x (y ∷ ys) = moved_by (leb x.section.vaddr y.section.vaddr) x y ys (put_section x ys) (put_moves x ys)

pub order_moves : (xs : List Placed) → IsPermutation xs (by_address xs)
order_moves [] = IsPermutation-refl []
order_moves (x ∷ xs) = IsPermutation-trans (x ∷ xs) (x ∷ by_address xs) (put_section x (by_address xs))
    (IsPermutation-cons x xs (by_address xs) (order_moves xs)) (put_moves x (by_address xs))

climbs_by : (b : Bool) (x y : Placed) (ys zs : List Placed) → leb x.section.vaddr y.section.vaddr ≡ b → Climbs address (y ∷ ys)
    → Climbs address zs → IsPermutation (x ∷ ys) zs → Climbs address (cond b (x ∷ y ∷ ys) (y ∷ zs))
climbs_by true x y ys zs t h k p = search (rules, leb-true, address)
climbs_by false x y ys zs t h k p =
    let le = leb-false x.section.vaddr y.section.vaddr t in
    ((λ z i. ⊎_elim (λ e. omega (arith, le, ap address e)) (λ j. h.0 z j) (in_permutation (x ∷ ys) zs z p i)), k)

put_climbs : (x : Placed) (ys : List Placed) → Climbs address ys → Climbs address (put_section x ys)
put_climbs x [] h = ((λ z i. absurd i), tt)
put_climbs x (y ∷ ys) h = climbs_by (leb x.section.vaddr y.section.vaddr) x y ys (put_section x ys) refl h (put_climbs x ys h.1)
    (put_moves x ys)

pub order_climbs : (xs : List Placed) → Climbs address (by_address xs)
order_climbs [] = tt
order_climbs (x ∷ xs) = put_climbs x (by_address xs) (order_climbs xs)

-- ---- what a sort by address gives

pub sorted_told : (images : Images) (leaves : List ℕ) (old new : List Given) → AreApart images leaves
    → sections_told old ≡ sections_of images leaves → IsPermutation old new
    → IsNonDecreasingBy (λ p. address (placed_told p)) new → sections_told new ≡ by_address (sections_of images leaves)
sorted_told images leaves old new h e p up =
    let all = sections_of images leaves in
    same_order address all (sections_told new) (by_address all) (addresses_differ images leaves h)
    (subst (λ z. IsPermutation z (sections_told new)) e (IsPermutation-map placed_told old new p)) (order_moves all)
    (later_map placed_told (λ x y. address x ≤ address y) new (climbs_in_order (λ q. address (placed_told q)) new up))
    (order_climbs all)

-- the section that a loop over sections by address has come to is one of the domain's
pub ordered_at : (all : List Placed) (ps : List Given) (i : ℕ) (p : Given) → sections_told ps ≡ by_address all → i < length ps
    → p ≡ get_or ps i p → IsIn (placed_told p) all
ordered_at all ps i p e l r = in_permutation all (by_address all) (placed_told p) (order_moves all)
    (subst (IsIn (placed_told p)) e (told_at ps i p l r))

pub name_is : (images : Images) (m : ℕ) (image : Image) → slice_get images.images m ≡ Some image → image.name ≡ name_of images m
name_is images m image e = ap (λ o. option_map_or (λ z. z.name) o []) (sym e)
