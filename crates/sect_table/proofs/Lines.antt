-- Lines, each of which a line feed ends.
use Rattle.sect_table.proofs.Common.{AllByRecursion, Line, List, [], ap, arith, false, is_silent, length, lines, list_all, nat_tests, parts, placed, refl, telling, true, ℕ, ◌++◌, ◌+◌, ◌==◌, ◌∙◌, ◌∷◌, ◌≡◌}
use Rattle.sect_table.proofs.Words.{is_shown, split_with}

abbrev pub ended : List (List ℕ) → List ℕ
ended [] = []
ended (l ∷ ls) = l ++ 10 ∷ ended ls

no_feed : (b : ℕ) → is_shown b ≡ true → (b == 10) ≡ false
no_feed b h = grind (arith, nat_tests)

parts_ended : (ls : List (List ℕ)) → AllByRecursion (λ l. list_all is_shown l ≡ true) ls → parts 10 (ended ls) ≡ ls ++ [] ∷ []
parts_ended [] h = refl
parts_ended (l ∷ ls) h = split_with 10 is_shown no_feed l (ended ls) h.0 ∙ ap (λ k. l ∷ k) (parts_ended ls h.1)

-- the lines that say something, from a place on
abbrev pub told : ℕ → List (List ℕ) → List Line
told at ls = telling (placed at (ls ++ [] ∷ []))

pub lines_ended : (ls : List (List ℕ)) → AllByRecursion (λ l. list_all is_shown l ≡ true) ls → lines (ended ls) ≡ told 0 ls
lines_ended ls h = ap (λ ps. telling (placed 0 ps)) (parts_ended ls h)

pub told_more : (at : ℕ) (l : List ℕ) (ls : List (List ℕ)) → is_silent l ≡ false
    → told at (l ∷ ls) ≡ record { first = at; text = l } ∷ told (at + (length l + 1)) ls
told_more at l ls e = rw e refl

pub loud : (b : ℕ) (bs : List ℕ) → (b == 45) ≡ false → is_silent (b ∷ bs) ≡ false
loud b [] e = refl
loud b (c ∷ cs) e = rw e refl
