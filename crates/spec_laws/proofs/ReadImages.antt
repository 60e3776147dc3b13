-- The images that are read for a source are plain.
use Rattle.spec_laws.proofs.Common.{Aarch64, AreFilesShort, AreImagesOf, Arm11, Bool, Contents, Ended, Image, Images, IsImagePlain, IsIn, IsOne, Item, ItemAt, List, Name, None, Option, Some, Source, SourceFile, [], and_parts, ap, bytes_eq}
use Rattle.spec_laws.proofs.Common.{codes, component_of, cond, digits_value, false, file_item, flat_of, from_filter_map, in_get, inl, inr, is_name, item_component, item_line, ltb-true, map_some, option_and_then, option_map, refl}
use Rattle.spec_laws.proofs.Common.{rules, slice_get, subst, sym, true, types, zip, ℕ, ◌&&◌, ◌<◌, ◌==◌, ◌^◌, ◌||◌, ◌∙◌, ◌∷◌, ◌≡◌, arith}
use Rattle.adl_ast.specs.declared.file.Item.TheVariants as items
use Rattle.adl_meaning.specs.Lists.{firsts_after}
use Rattle.cam_base.specs.Numbers.{fits, is_decimal, is_hexadecimal, number_value}
use Rattle.sect_table.specs.Headers.{header, header_of}
use Rattle.sect_table.specs.Tables.{image, image_in}
use Rattle.sect_table.specs.declared.image.Header.{Header}
use Rattle.source_images.specs.Found.{Found, absent, found_of, table, too_long}
use Rattle.source_images.specs.ImagesRead as tables
use Rattle.source_images.specs.ImagesRead.{images_in}
use Rattle.source_images.specs.Types.{component_name}
use Rattle.source_images.proofs.Soundness.{images_sound}
use Rattle.cam_base.specs.Fields.{spaced_fields}
use Rattle.cam_base.specs.Lines.{Line, lines}
use Rattle.spec_laws.proofs.ComponentNames.{component_named}

-- ---- types are names

component_spelled : (i : Item) (n : Name) → IsOne item_line i → component_of i ≡ Some n → is_name n ≡ true
component_spelled (items.Component c) n w e = search (rules, component_named, item_component)
component_spelled _ n w e = cc

type_named : (s : Source) → AreFilesShort s → (at : ItemAt) (n : Name) → component_name s at ≡ Some n → is_name n ≡ true
type_named s short at n e = by_file (slice_get s.files at.file) refl e where
  by_item : (f : SourceFile) → IsIn f s.files → (o : Option Ended) → slice_get f.tree.items at.item ≡ o
      → option_and_then (λ (z : Ended). component_of z.item) o ≡ Some n → is_name n ≡ true
  by_item f i None is e = cc
  by_item f i (Some x) is e = let w = short f i in
      component_spelled x.item n (file_item f.tree (w.0, w.1) x (in_get f.tree.items at.item x is)) e

  by_file : (o : Option SourceFile) → slice_get s.files at.file ≡ o
      → option_and_then (λ (f : SourceFile). option_and_then (λ (z : Ended). component_of z.item)
      (slice_get f.tree.items at.item)) o ≡ Some n → is_name n ≡ true
  by_file None is e = cc
  by_file (Some f) is e = by_item f (in_get s.files at.file f is) (slice_get f.tree.items at.item) refl e

from_firsts : {X : Type 0} (same : X → X → Bool) (met : X → Bool) (xs : List X) (x : X)
    → IsIn x (firsts_after same met xs) → IsIn x xs
from_firsts same met [] x i = absurd i
from_firsts {X} same met (y ∷ xs) x i =
    grind (arith, from_firsts same met xs x, from_firsts same (λ z. met z || same z y) xs x)

types_named : (s : Source) → AreFilesShort s → (n : Name) → IsIn n (types s (flat_of s)) → is_name n ≡ true
types_named s short n i = search (rules, from_firsts, from_filter_map, type_named)

-- ---- programs begin at numbers of 64 bits

fits_small : (b : Bool) (m n : ℕ) → fits b m ≡ Some n → n < 2 ^ 64
fits_small b m n e = search (rules, ltb-true, and_parts)

number_small : (bs : List ℕ) (n : ℕ) → number_value bs ≡ Some n → n < 2 ^ 64
number_small [] n e = fits_small (is_decimal []) (digits_value 10 []) n e
number_small (z ∷ []) n e = fits_small (is_decimal (z ∷ [])) (digits_value 10 (z ∷ [])) n e
number_small (z ∷ x ∷ ds) n e = by_test (z == 48 && (x == 120 || x == 88)) e where
  by_test : (b : Bool) → cond b (fits (is_hexadecimal ds) (digits_value 16 ds))
      (fits (is_decimal (z ∷ x ∷ ds)) (digits_value 10 (z ∷ x ∷ ds))) ≡ Some n → n < 2 ^ 64
  by_test true e = fits_small (is_hexadecimal ds) (digits_value 16 ds) n e
  by_test false e = fits_small (is_decimal (z ∷ x ∷ ds)) (digits_value 10 (z ∷ x ∷ ds)) n e

header_small : (fields : List (List ℕ)) (h : Header) → header_of fields ≡ Some h → h.entry < 2 ^ 64
header_small (word ∷ entry ∷ []) h e = by_test (bytes_eq word (codes "entry")) e where
  by_test : (b : Bool) → cond b (option_map (header Arm11) (number_value entry)) None ≡ Some h → h.entry < 2 ^ 64
  by_test true e =
      let n = map_some (header Arm11) (number_value entry) h e in
      subst (λ (z : Header). z.entry < 2 ^ 64) n.2 (number_small entry n.0 n.1)
  by_test false e = cc
header_small (word ∷ entry ∷ arch ∷ []) h e = by_test (bytes_eq word (codes "entry") && bytes_eq arch (codes "aarch64")) e where
  by_test : (b : Bool) → cond b (option_map (header Aarch64) (number_value entry)) None ≡ Some h → h.entry < 2 ^ 64
  by_test true e =
      let n = map_some (header Aarch64) (number_value entry) h e in
      subst (λ (z : Header). z.entry < 2 ^ 64) n.2 (number_small entry n.0 n.1)
  by_test false e = cc
header_small _ h e = cc

-- ---- images

zipped : {X Y : Type 0} (xs : List X) (ys : List Y) (x : X × Y) → IsIn x (zip xs ys) → IsIn x.0 xs
zipped [] ys x i = absurd i
zipped (a ∷ xs) [] x i = absurd i
zipped {X} {Y} (a ∷ xs) (b ∷ ys) x (inl e) = inl (ap (λ (z : X × Y). z.0) e)
zipped (a ∷ xs) (b ∷ ys) x (inr i) = inr (zipped xs ys x i)

record IsNamed (type : Name) (i : Image) : Type 0 where
  name : i.name ≡ type
  entry : i.entry < 2 ^ 64

image_named : (name : Name) (ls : List Line) (i : Image) → image_in name ls ≡ Some i → IsNamed name i
image_named name [] i e = cc
image_named name (line ∷ more) i e =
    let h = map_some (image name more) (header_of (spaced_fields line.text)) i e in
    subst (IsNamed name) h.2 (record { name = refl; entry = header_small (spaced_fields line.text) h.0 h.1 })

found_named : (x : Name × Found) (i : Image) → tables.image_in x ≡ Some i → IsNamed x.0 i
found_named (name, absent) i e = cc
found_named (name, too_long) i e = cc
found_named (name, table bytes) i e = image_named name (lines bytes) i e

image_plain : (s : Source) → AreFilesShort s → (all : List Found) (m : ℕ) (i : Image)
    → slice_get (images_in (types s (flat_of s)) all) m ≡ Some i → IsImagePlain i
image_plain s short all m i e =
    let names = types s (flat_of s) in
    let x = from_filter_map tables.image_in i (zip names all) (in_get (images_in names all) m i e) in
    let y = found_named x.0 i x.2 in
    record {
      entry = y.entry;
      name = subst (λ (z : Name). is_name z ≡ true) (sym y.name) (types_named s short x.0.0 (zipped names all x.0 x.1));
      sections = λ z within. images_sound names all m i e z within;
    }

pub read_images_are_plain : (contents : Contents) (root : List ℕ) (s : Source) (images : Images) → AreFilesShort s
    → AreImagesOf contents root s (flat_of s) images → (m : ℕ) (i : Image) → slice_get images.images m ≡ Some i → IsImagePlain i
read_images_are_plain contents root s images short read m i e =
    image_plain s short (found_of contents root s (flat_of s)) m i (ap (λ (z : Images). slice_get z.images m)
    (sym read.images) ∙ e)
