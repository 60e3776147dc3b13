-- A source has fewer components than numbers of 32 bits count.
use Rattle.std.proofs.Common.{◌≡◌, ◌<◌, ◌≤◌, ◌+◌, ◌*◌, ◌^◌, ℕ, List, length, [], ◌∷◌, ◌∙◌, arith, length-append}
use Rattle.std.specs.List.{flat_map, enumerate_from, All}
use Rattle.std.proofs.lemmas.List.{length-map}
use Rattle.std.proofs.lemmas.List.Elements.{All-head, All-tail}
use Rattle.std.proofs.lemmas.List.FromFn.{length-enumerate_from}
use Rattle.cam_base.proofs.Lists.{length-filter_map}
use Rattle.adl_ast.specs.declared.source.Source.{Source}
use Rattle.adl_ast.specs.declared.source.SourceFile.{SourceFile}
use Rattle.adl_meaning.specs.Items.{items_in, items_of, components, as_component, AreFew}

length-items : (n : ℕ) (f : SourceFile) → length (items_in (n, f)) ≡ length f.tree.items
length-items n f = length-map (enumerate_from 0 f.tree.items) _ ∙ length-enumerate_from 0 f.tree.items

few_items : (n : ℕ) (fs : List SourceFile) → All (λ f. length f.tree.items ≤ 1048576) fs
    → length (flat_map items_in (enumerate_from n fs)) ≤ length fs * 1048576
few_items n [] h = omega arith
few_items n (f ∷ fs) h =
    let one : length f.tree.items ≤ 1048576 = All-head (λ (f : SourceFile). length f.tree.items ≤ 1048576) f fs h in
    let rest = few_items (n + 1) fs (All-tail (λ (f : SourceFile). length f.tree.items ≤ 1048576) f fs h) in
    let l = length-items n f in
    let a = length-append (items_in (n, f)) (flat_map items_in (enumerate_from (n + 1) fs)) in
    omega arith

-- also where the assembly counts as one more
pub few_components : (s : Source) → AreFew s → length (components s) + 1 < 2 ^ 32
few_components s few =
    let a = few_items 0 s.files few.items in
    let b = length-filter_map as_component (items_of s) in
    let c = few.files in
    omega arith
