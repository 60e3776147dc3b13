-- What the sections of a domain are, and what is told of them.
use Rattle.source_images.proofs.Common.{Bool, Image, Images, IsIn, List, Placed, Some, [], ap, append_assoc, drop, drop_first, false, flat_map, from_gather, get_or, in_place, inl, inr, is_run, length, map_push, placed, placed_told, refl, sections_if}
use Rattle.source_images.proofs.Common.{rules, sections_of, sections_told, slice_get, slice_get_read, subst, true, ℕ, ◌++◌, ◌+◌, ◌<◌, ◌∙◌, ◌∷◌, ◌≡◌}
use Rattle.source_images.specs.declared.sections.Placed.{Placed as Given}

pub told_push : (new old : List Given) (x : Given) → new ≡ old ++ x ∷ [] → sections_told new ≡ sections_told old
    ++ placed_told x ∷ []
told_push new old x e = ap sections_told e ∙ map_push placed_told old x

in_told : (x : Given) (xs : List Given) → IsIn x xs → IsIn (placed_told x) (sections_told xs)
in_told x [] i = absurd i
in_told x (y ∷ xs) (inl e) = inl (ap placed_told e)
in_told x (y ∷ xs) (inr i) = inr (in_told x xs i)

-- the section that a loop has come to
pub told_at : (xs : List Given) (i : ℕ) (x : Given) → i < length xs → x ≡ get_or xs i x → IsIn (placed_told x) (sections_told xs)
told_at xs i x l e = in_told x xs (in_place x xs i (slice_get_read xs (length xs) i x refl l e))

-- where a section of a domain comes from
pub record ComesFrom (images : Images) (leaves : List ℕ) (x : Placed) : Type 0 where
  pub run : is_run images leaves x.image ≡ true
  pub image : Image
  pub at : slice_get images.images x.image ≡ Some image
  pub section : slice_get image.sections x.number ≡ Some x.section

comes_if : (images : Images) (leaves : List ℕ) (x : Placed) (m : ℕ) (image : Image) (b : Bool) → is_run images leaves m ≡ b
    → slice_get images.images m ≡ Some image
    → IsIn x (sections_if b m image) → ComesFrom images leaves x
comes_if images leaves x m image false r e i = absurd i
comes_if images leaves x m image true r e i =
    let k = from_gather (λ n section. placed m n section ∷ []) x image.sections i in
    by_hit k.0 k.1 k.2 k.3
  where
    by_hit : (n : ℕ) (section : _) → slice_get image.sections n ≡ Some section → IsIn x (placed m n section ∷ [])
        → ComesFrom images leaves x
    by_hit n section s (inl q) = subst (ComesFrom images leaves) q (record { run = r; image = image; at = e; section = s })
    by_hit n section s (inr q) = absurd q

pub comes_from : (images : Images) (leaves : List ℕ) (x : Placed) → IsIn x (sections_of images leaves) → ComesFrom images leaves x
comes_from images leaves x i = search (rules, from_gather, comes_if)

-- ---- elements that a slice gives

-- the turn of a loop that appends what each section gives
pub told_turn : {Y : Type 0} (f : Placed → List Y) (ps : List Given) (i : ℕ) (p : Given) (old new : List Y) → i < length ps
    → p ≡ get_or ps i p → new ≡ old ++ f (placed_told p)
    → new ++ flat_map f (sections_told (drop (i + 1) ps)) ≡ old ++ flat_map f (sections_told (drop i ps))
told_turn f ps i p old new l e n = search (rules, append_assoc, drop_first)
