-- How many capabilities page tables have: one for each page, and one for each table that isn't a root.
use Rattle.spec_laws.proofs.Common.{Bool, List, Mapping, Shape, [], ap, arith, caps_of, false, gather_ones, layers, length, length-map, map, put_front, refl, runs, sizes, slot_of, span, table_of, true, upper, uppers, ℕ, ◌+◌, ◌∙◌, ◌∷◌}
use Rattle.spec_laws.proofs.Common.{rules, ◌≡◌, ◌≤◌}
use Rattle.std.specs.List.{slice_index_or}
use Rattle.page_tables.specs.Levels.{numbered}
use Rattle.spec_laws.proofs.Totals.{total, total_append, totals}

-- each mapping is in one run
in_front : (s : ℕ) (x : Mapping) (rs : List (List Mapping))
    → total (λ (r : List Mapping). length r) (put_front s x rs) ≡ 1 + total (λ (r : List Mapping). length r) rs
in_front s x [] = refl
in_front s x (r ∷ rs) = search (rules, total)

in_runs : (s : ℕ) (xs : List Mapping) → total (λ (r : List Mapping). length r) (runs s xs) ≡ length xs
in_runs s [] = refl
in_runs s (x ∷ xs) = let a = in_front s x (runs s xs) in let ih = in_runs s xs in omega (arith, a, ih)

of_tables : (l : Shape) (link : ℕ) (rs : List (List Mapping)) → total caps_of (map (table_of l link) rs) ≡ total
    (λ (r : List Mapping). length r) rs
of_tables l link [] = refl
of_tables l link (r ∷ rs) = let ih = of_tables l link rs in let m = length-map r (slot_of l link) in omega (arith, ih, m)

pub of_levels : (ls : List Shape) (xs : List Mapping) (first link : ℕ)
    → total caps_of (numbered first link (layers ls xs)) ≤ length xs + sizes (layers ls xs)
of_levels [] xs first link = omega arith
of_levels (l ∷ ls) xs first link =
    let rs = runs (span l) xs in let us = uppers l rs in
    let ys = layers ls us in let above = numbered first (first + sizes ys) ys in
    let ih : total caps_of above ≤ length us + sizes ys = of_levels ls us first (first + sizes ys) in
    let ones : length us ≡ length rs = gather_ones (λ j (r : List Mapping). upper l j r) rs in
    let here : total caps_of (map (table_of l link) rs) ≡ length xs = of_tables l link rs ∙ in_runs (span l) xs in
    omega (arith, ih, ones, here, total_append caps_of above (map (table_of l link) rs))

-- looked up one behind another, all are counted
pub looked_up : {X Y : Type 0} (g : X → ℕ) (d : X) (ys : List Y) (xs : List X) → length ys ≡ length xs
    → totals (λ j (y : Y). g (slice_index_or xs j d)) ys ≡ total g xs
looked_up g d [] [] h = refl
looked_up g d [] (x ∷ xs) h = absurd (omega (arith, h))
looked_up g d (y ∷ ys) [] h = absurd (omega (arith, h))
looked_up {X} {Y} g d (y ∷ ys) (x ∷ xs) h = ap (λ n. g x + n) (looked_up g d ys xs (omega (arith, h)))
