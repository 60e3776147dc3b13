-- The keyword of the first assembly, as it is looked for file by file.
use Rattle.cspace_layout.proofs.Common.{Ended, Item, ItemAt, List, None, Place, Some, Source, SourceFile, [], ap, arith, as_assembly, enumerate_from, fault_at, filter_map, items_in, keyword, keyword_among, keyword_in, keyword_of, length, limit_fault}
use Rattle.cspace_layout.proofs.Common.{map, option_map, option_or, place_in, refl, sym, ℕ, ◌++◌, ◌+◌, ◌∙◌, ◌∷◌, ◌≡◌}
use Rattle.adl_meaning.specs.Prelude.{Assembly, flat_map, slice_get}
use Rattle.std.proofs.lemmas.List.Elements.{filter_map-append}
use Rattle.adl_ast.specs.declared.file.Item.TheVariants as items

first_of_two : (xs ys : List (ItemAt × Assembly)) → place_in (slice_get (xs ++ ys) 0) ≡ option_or (place_in (slice_get xs 0))
    (place_in (slice_get ys 0))
first_of_two [] ys = refl
first_of_two (x ∷ xs) ys = refl

in_item : (at : ItemAt) (item : Item) → place_in (slice_get (filter_map as_assembly ((at, item) ∷ [])) 0) ≡ keyword_of item
in_item at (items.Import i) = refl
in_item at (items.Procedure p) = refl
in_item at (items.Component c) = refl
in_item at (items.Assembly a) = refl

abbrev numbered : ℕ → ℕ × Ended → ItemAt × Item
numbered f e = (record { file = f; item = e.0 }, e.1.item)

in_items : (f n : ℕ) (es : List Ended) → place_in (slice_get (filter_map as_assembly (map (numbered f) (enumerate_from n es))) 0)
    ≡ keyword_in es
in_items f n [] = refl
in_items f n (e ∷ es) =
    let first = numbered f (n, e) ∷ [] in
    let rest = map (numbered f) (enumerate_from (n + 1) es) in
    ap (λ z. place_in (slice_get z 0)) (filter_map-append as_assembly first rest)
    ∙ first_of_two (filter_map as_assembly first) (filter_map as_assembly rest)
    ∙ ap (λ z. option_or z (place_in (slice_get (filter_map as_assembly rest) 0))) (in_item (numbered f (n, e)).0 e.item)
    ∙ ap (λ z. option_or (keyword_of e.item) z) (in_items f (n + 1) es)

in_files : (n : ℕ) (fs : List SourceFile)
    → place_in (slice_get (filter_map as_assembly (flat_map items_in (enumerate_from n fs))) 0) ≡ keyword_among fs
in_files n [] = refl
in_files n (f ∷ fs) =
    let first = items_in (n, f) in
    let rest = flat_map items_in (enumerate_from (n + 1) fs) in
    ap (λ z. place_in (slice_get z 0)) (filter_map-append as_assembly first rest)
    ∙ first_of_two (filter_map as_assembly first) (filter_map as_assembly rest)
    ∙ ap (λ z. option_or z (place_in (slice_get (filter_map as_assembly rest) 0))) (in_items n 0 f.tree.items)
    ∙ ap (λ z. option_or (keyword_in f.tree.items) z) (in_files (n + 1) fs)

pub keyword_found : (source : Source) → keyword source ≡ keyword_among source.files
keyword_found source = in_files 0 source.files

pub limit_nowhere : (source : Source) (files : List SourceFile) (name : List ℕ) → files ≡ source.files
    → None ≡ keyword_among files → None ≡ limit_fault source name
limit_nowhere source files name f e = ap (λ o. option_map (λ place. fault_at place name) o) (e ∙ ap keyword_among f
    ∙ sym (keyword_found source))

pub limit_there : (source : Source) (files : List SourceFile) (name : List ℕ) (place : Place) → files ≡ source.files
    → Some place ≡ keyword_among files → Some (fault_at place name) ≡ limit_fault source name
limit_there source files name place f e = ap (λ o. option_map (λ p. fault_at p name) o) (e ∙ ap keyword_among f
    ∙ sym (keyword_found source))

-- the only assembly has a keyword
pub has_place : (xs : List (ItemAt × Assembly)) → length xs ≡ 1 → (p : Place) × (place_in (slice_get xs 0) ≡ Some p)
has_place [] l = absurd (omega arith)
has_place (x ∷ xs) l = (x.1.place, refl)
