-- What a leaf runs is what the section table of its component's name says.
use Rattle.arch_compile.proofs.Common.{AreImagesOf, AreNumbered, Bool, Contents, Found, Images, IsProgramOf, List, Name, None, Option, Some, Source, [], ap, arith, at_place, component_name, component_of, cond, cons_option, each_named, false}
use Rattle.arch_compile.proofs.Common.{filter_map, flat_of, folder_of, found_bytes, found_of, get_map, in_filter, length, map_some, name_of_item, nat_lt, option_and_then, option_map_or, position, refl, slice_get, subst, suc, sym, table, table_limit}
use Rattle.arch_compile.proofs.Common.{table_name, table_names, too_long, true, type_number, type_of, types, zero, zip, ℕ, ◌∙◌, ◌∷◌, ◌≡◌, ◌≤◌}
use Rattle.std.proofs.lemmas.List.Quantifiers.{position-Some}
use Rattle.std.proofs.lemmas.Option.{get_or_from_slice_get, same_Some}
use Rattle.std.proofs.lemmas.Slice.Eq.{bytes_eq-Decides}
use Rattle.std.specs.FinMap.{get}
use Rattle.std.specs.Str.{bytes_eq}
use Rattle.adl_ast.specs.declared.file.Ended.{Ended}
use Rattle.adl_ast.specs.declared.file.Item.{Item}
use Rattle.adl_ast.specs.declared.file.Item.TheVariants as items
use Rattle.adl_ast.specs.declared.source.SourceFile.{SourceFile}
use Rattle.adl_meaning.specs.declared.flat.Leaf.{Leaf}
use Rattle.adl_meaning.specs.declared.item_at.ItemAt.{ItemAt}
use Rattle.cam_base.proofs.Gathered.{place_of as listed_at}
use Rattle.cam_base.proofs.Lists.{length-filter_map}
use Rattle.cam_base.specs.Lines.{Line, lines}
use Rattle.sect_table.specs.Tables.{image, image_in as image_from, image_of}
use Rattle.sect_table.specs.declared.image.Image.{Image}
use Rattle.source_images.specs.Images.{image_number}
use Rattle.source_images.specs.ImagesRead.{image_in}
use Rattle.system_spec.specs.Tables.{component_name as leaf_component_name}
use Rattle.cspace_layout.specs.Members.{items_of_file}

-- ---- the table of a type

-- where as many are kept as there are, each is kept at its place
kept_at : {X Y : Type 0} (h : X → Option Y) (xs : List X) (m : ℕ) (y : Y) → length xs ≤ length (filter_map h xs)
    → slice_get (filter_map h xs) m ≡ Some y → (x : X) × (slice_get xs m ≡ Some x) × (h x ≡ Some y)
kept_at h [] m y l e = absurd (cc)
kept_at {X} {Y} h (x ∷ xs) m y l e = by_first (h x) refl m l e (λ k f g. kept_at h xs k y f g) where
  by_first : (o : Option Y) → h x ≡ o → (m : ℕ) → length (x ∷ xs) ≤ length (cons_option o (filter_map h xs))
      → slice_get (cons_option o (filter_map h xs)) m ≡ Some y
      → ((k : ℕ) → length xs ≤ length (filter_map h xs) → slice_get (filter_map h xs) k ≡ Some y
      → (z : X) × (slice_get xs k ≡ Some z) × (h z ≡ Some y))
      → (z : X) × (slice_get (x ∷ xs) m ≡ Some z) × (h z ≡ Some y)
  by_first None f m l e more = let few = length-filter_map h xs in absurd (omega (arith, l, few))
  by_first (Some z) f zero l e more = let same : z ≡ y = cc in (x, refl, f ∙ ap (λ w. Some w) same)
  by_first (Some z) f (suc m) l e more = more m (omega (arith, l)) e

zip_few : {X Y : Type 0} (xs : List X) (ys : List Y) → length (zip xs ys) ≤ length xs
zip_few [] ys = omega arith
zip_few (x ∷ xs) [] = omega arith
zip_few (x ∷ xs) (y ∷ ys) = let few = zip_few xs ys in omega (arith, few)

zip_place : {X Y : Type 0} (xs : List X) (ys : List Y) (m : ℕ) (x : X × Y) → slice_get (zip xs ys) m ≡ Some x
    → (slice_get xs m ≡ Some x.0) × (slice_get ys m ≡ Some x.1)
zip_place [] ys m x e = absurd (cc)
zip_place (a ∷ xs) [] m x e = absurd (cc)
zip_place {X} {Y} (a ∷ xs) (b ∷ ys) zero x e =
    let pair : X × Y = (a, b) in
    let same : pair ≡ x = cc in
    (ap (λ (z : X × Y). Some z.0) same, ap (λ (z : X × Y). Some z.1) same)
zip_place (a ∷ xs) (b ∷ ys) (suc m) x e = zip_place xs ys m x e

-- what is found has an image where the contents have the table
from_found : (name : Name) (o : Option (List ℕ)) (i : Image) → image_in (name, found_bytes o) ≡ Some i
    → (bytes : List ℕ) × (o ≡ Some bytes) × (image_of name bytes ≡ Some i)
from_found name None i e = absurd (cc)
from_found name (Some bytes) i e = by_test (nat_lt table_limit (length bytes)) e where
  by_test : (b : Bool) → image_in (name, cond b too_long (table bytes)) ≡ Some i → (more : List ℕ) × (Some bytes ≡ Some more)
      × (image_of name more ≡ Some i)
  by_test true e = absurd (cc)
  by_test false e = (bytes, refl, e)

in_parts : (x : Name × Found) → image_in (x.0, x.1) ≡ image_in x
in_parts (name, found) = refl

image_name : (name bytes : List ℕ) (i : Image) → image_of name bytes ≡ Some i → i.name ≡ name
image_name name bytes i e = by_lines (lines bytes) e where
  by_lines : (ls : List Line) → image_from name ls ≡ Some i → i.name ≡ name
  by_lines [] e = absurd (cc)
  by_lines (line ∷ more) e = let h = map_some (image name more) _ i e in ap (λ (z : Image). z.name) (sym h.2)

-- ---- the type of a leaf

typed : (s : Source) (leaf : Leaf) (names : List Name) (m : ℕ) → option_and_then (λ name. position (bytes_eq name) names)
    (type_of s leaf) ≡ Some m → (name : Name) × (component_name s leaf.component ≡ Some name)
    × (position (bytes_eq name) names ≡ Some m)
typed s leaf names m e = by_test leaf.hardware e where
  by_name : (o : Option Name) → component_name s leaf.component ≡ o → option_and_then (λ name. position (bytes_eq name) names)
      o ≡ Some m → (name : Name) × (component_name s leaf.component ≡ Some name) × (position (bytes_eq name) names ≡ Some m)
  by_name None f e = absurd (cc)
  by_name (Some name) f e = (name, f, e)

  by_test : (b : Bool) → option_and_then (λ name. position (bytes_eq name) names)
      (cond b None (component_name s leaf.component)) ≡ Some m → (name : Name) × (component_name s leaf.component ≡ Some name)
      × (position (bytes_eq name) names ≡ Some m)
  by_test true e = absurd (cc)
  by_test false e = by_name (component_name s leaf.component) refl e

-- a component's name is found where its leaf's is
same_name : (s : Source) (at : ItemAt) (n : Name) → component_name s at ≡ Some n → leaf_component_name s at ≡ n
same_name s at n e = by_file (slice_get s.files at.file) e where
  by_kind : (i : Item) → component_of i ≡ Some n → name_of_item i ≡ n
  by_kind (items.Import i) e = absurd (cc)
  by_kind (items.Procedure p) e = absurd (cc)
  by_kind (items.Component c) e = cc
  by_kind (items.Assembly a) e = absurd (cc)

  by_item : (o : Option Ended) → option_and_then (λ (z : Ended). component_of z.item) o ≡ Some n
      → option_map_or (λ (z : Ended). name_of_item z.item) o [] ≡ n
  by_item None e = absurd (cc)
  by_item (Some z) e = by_kind z.item e

  by_file : (o : Option SourceFile)
      → option_and_then (λ (f : SourceFile). option_and_then (λ (z : Ended). component_of z.item)
      (slice_get f.tree.items at.item)) o ≡ Some n
      → option_map_or (λ (z : Ended). name_of_item z.item) (slice_get (items_of_file o) at.item) [] ≡ n
  by_file None e = absurd (cc)
  by_file (Some f) e = by_item (slice_get f.tree.items at.item) e

-- ---- what a leaf runs is the program of its component

module _ (contents : Contents) (root : List ℕ) (s : Source) (images : Images) (read : AreImagesOf contents root s (flat_of s)
    images) (numbered : AreNumbered (flat_of s) images) where
  abbrev names : List Name
  names = types s (flat_of s)

  number_is : (k : ℕ) (leaf : Leaf) → slice_get (flat_of s).leaves k ≡ Some leaf
      → image_number images k ≡ type_number s (flat_of s) leaf
  number_is k leaf at = ap (λ (z : Images). image_number z k) read.images ∙ ap (option_and_then (λ o. o))
      (get_map (type_number s (flat_of s)) (flat_of s).leaves k leaf at)

  -- there is an image for each type
  all_read : (n : ℕ) → n ≡ length names → n ≤ length images.images
  all_read zero e = omega arith
  all_read (suc j) e =
      let x = each_named (filter_map (type_of s) (flat_of s).leaves) j (omega (arith, e)) in
      let leaf = in_filter (type_of s) (flat_of s).leaves x.0 x.1 in
      let k = listed_at leaf.0 (flat_of s).leaves leaf.1 in
      let low = numbered.runs k.0 j (number_is k.0 leaf.0 k.1 ∙ ap (option_and_then (λ name. position (bytes_eq name) names))
      leaf.2 ∙ x.2) in
      omega (arith, low)

  pub program_is : (leaf m : ℕ) (found : Leaf) (i : Image) → slice_get (flat_of s).leaves leaf ≡ Some found
      → image_number images leaf ≡ Some m → slice_get images.images m ≡ Some i
      → IsProgramOf contents root (leaf_component_name s found.component) i
  program_is leaf m found i at number listed =
      let name = typed s found names m (sym (number_is leaf found at) ∙ number) in
      let p = position-Some (bytes_eq name.0) names m [] name.2 in
      let here = at_place names m p.0 in
      let same : name.0 ≡ here.0 = (bytes_eq-Decides name.0 _).0 p.1 ∙ get_or_from_slice_get names m here.0 [] here.1 in
      let long = all_read (length names) refl in let found_all = found_of contents root s (flat_of s) in
      let few = zip_few names found_all in let all = zip names found_all in
      let images_are : images.images ≡ filter_map image_in all = ap (λ (z : Images). z.images) read.images in
      let count = ap length images_are in
      let k = kept_at image_in all m i (omega (arith, long, few, count)) (ap (λ z. slice_get z m) (sym images_are) ∙ listed) in
      let z = zip_place names found_all m k.0 k.1 in
      let F : List ℕ → Found = λ name. found_bytes (get contents name) in
      let stands : slice_get found_all m ≡ Some (F (table_name (folder_of root) here.0)) =
      get_map F (table_names root s (flat_of s)) m (table_name (folder_of root) here.0)
      (get_map (table_name (folder_of root)) names m here.0 here.1) in
      let type_is : k.0.0 ≡ here.0 = same_Some k.0.0 here.0 (sym z.0 ∙ here.1) in
      let found_is : k.0.1 ≡ F (table_name (folder_of root) here.0) = same_Some k.0.1 _ (sym z.1 ∙ stands) in
      let says : image_in (here.0, F (table_name (folder_of root) here.0)) ≡ Some i =
      ap (λ (n : Name). image_in (n, F (table_name (folder_of root) here.0))) (sym type_is)
      ∙ ap (λ (f : Found). image_in (k.0.0, f)) (sym found_is) ∙ in_parts k.0 ∙ k.2 in
      let b = from_found here.0 (get contents (table_name (folder_of root) here.0)) i says in
      let named : here.0 ≡ leaf_component_name s found.component = sym same ∙ sym (same_name s found.component name.0 name.1) in
      subst (λ z. IsProgramOf contents root z i) named (record {
        bytes = b.0;
        stands = b.1;
        says = b.2;
        named = image_name here.0 b.0 i b.2;
      })
