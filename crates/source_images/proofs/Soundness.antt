-- What the images of a source keep.
use Rattle.source_images.proofs.Common.{Bool, Found, Header, Image, IsIn, IsTrue, Line, List, Name, None, Option, Section, Some, [], absent, ap, cond, cons_option, false, header_of, image, image_in, image_of, images_in, inl, inr, is_sound, lines}
use Rattle.source_images.proofs.Common.{option_map, refl, same_Some, section_of, slice_get, spaced_fields, spelled, subst, suc, sym, table, too_long, true, where_sound, zero, ℕ, ◌∙◌, ◌∷◌, ◌≡◌, ◌⊎◌}
use Rattle.sect_table.specs.Tables.{sections_of}

pub in_cons : {X : Type 0} (o : Option X) (xs : List X) (x : X) → IsIn x (cons_option o xs) → (o ≡ Some x) ⊎ IsIn x xs
in_cons None xs x i = inr i
in_cons (Some y) xs x (inl e) = inl (ap (λ z. Some z) e)
in_cons (Some y) xs x (inr i) = inr i

section_sound : (o : Option Section) (s : Section) → where_sound o ≡ Some s → IsTrue (is_sound s)
section_sound None s e = absurd (cc)
section_sound (Some x) s e = by_test (is_sound x) refl e
  where
    by_test : (b : Bool) → is_sound x ≡ b → cond b (Some x) None ≡ Some s → IsTrue (is_sound s)
    by_test true sound q = let same : x ≡ s = cc in subst (λ z. IsTrue (is_sound z)) same sound
    by_test false sound q = absurd (cc)

sections_sound : (ls : List Line) (s : Section) → IsIn s (sections_of ls) → IsTrue (is_sound s)
sections_sound [] s i = absurd i
sections_sound (line ∷ ls) s i = by_place (in_cons (section_of (spaced_fields line.text)) (sections_of ls) s i)
    (λ j. sections_sound ls s j)
  where
    by_place : (section_of (spaced_fields line.text) ≡ Some s) ⊎ IsIn s (sections_of ls)
        → (IsIn s (sections_of ls) → IsTrue (is_sound s)) → IsTrue (is_sound s)
    by_place (inl e) more = section_sound (spelled (spaced_fields line.text)) s e
    by_place (inr j) more = more j

image_sound : (name : Name) (ls : List Line) (i : Image) → image_in name ls ≡ Some i → (s : Section) → IsIn s i.sections
    → IsTrue (is_sound s)
image_sound name [] i e s within = absurd (cc)
image_sound name (line ∷ more) i e s within = by_header (header_of (spaced_fields line.text)) e
  where
    by_header : (h : Option Header) → option_map (image name more) h ≡ Some i → IsTrue (is_sound s)
    by_header None q = absurd (cc)
    by_header (Some h) q =
        sections_sound more s (subst (λ (z : Image). IsIn s z.sections) (sym (same_Some (image name more h) i q)) within)

-- an image is that of a table
pub image_there : (names : List Name) (all : List Found) (m : ℕ) (i : Image) → slice_get (images_in names all) m ≡ Some i
    → (name : Name) × (bytes : List ℕ) × IsIn (table bytes) all × (image_of name bytes ≡ Some i)
image_there [] all m i e = absurd (cc)
image_there (name ∷ names) [] m i e = absurd (cc)
image_there (name ∷ names) (absent ∷ all) m i e = let r = image_there names all m i e in (r.0, r.1, inr r.2, r.3)
image_there (name ∷ names) (too_long ∷ all) m i e = let r = image_there names all m i e in (r.0, r.1, inr r.2, r.3)
image_there (name ∷ names) (table bytes ∷ all) m i e = by_image (image_of name bytes) refl m e
    (λ k q. image_there names all k i q)
  where
    by_image : (o : Option Image) → image_of name bytes ≡ o → (k : ℕ) → slice_get (cons_option o (images_in names all)) k ≡ Some i
        → ((k : ℕ) → slice_get (images_in names all) k ≡ Some i → (n : Name) × (b : List ℕ) × IsIn (table b) all
        × (image_of n b ≡ Some i))
        → (n : Name) × (b : List ℕ) × IsIn (table b) (table bytes ∷ all) × (image_of n b ≡ Some i)
    by_image None is k q more = let r = more k q in (r.0, r.1, inr r.2, r.3)
    by_image (Some j) is zero q more = (name, bytes, inl refl, is ∙ q)
    by_image (Some j) is (suc k) q more = let r = more k q in (r.0, r.1, inr r.2, r.3)

-- each section of each image is sound
pub images_sound : (names : List Name) (all : List Found) (m : ℕ) (i : Image) → slice_get (images_in names all) m ≡ Some i
    → (s : Section) → IsIn s i.sections → IsTrue (is_sound s)
images_sound names all m i e s within = let r = image_there names all m i e in image_sound r.0 (lines r.1) i r.3 s within
