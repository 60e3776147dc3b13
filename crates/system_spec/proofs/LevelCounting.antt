-- Page tables are counted level by level
use Rattle.std.proofs.Common.{rules}
use Rattle.system_spec.proofs.Common.{Directory, Global, Level, List, PageTable, Table, Upper, ap, arith, count_by, counted, counts, counts_in, false, get_or, is_of, length, one_more, refl, subst, sym, take, true, ℕ, ◌+◌, ◌<◌, ◌∙◌}
use Rattle.system_spec.proofs.Common.{◌≡◌, ◌≤◌}
use Rattle.std.proofs.lemmas.List.Sums.{count_by_more_no, count_by_more_yes}

pub counted_in : (xs : List PageTable) (l : Level) → counted (counts_in xs) l ≡ count_by (is_of l) xs
counted_in xs Global = refl
counted_in xs _ = refl

same : (a b c d e f g h : ℕ) → a ≡ e → b ≡ f → c ≡ g → d ≡ h → counts a b c d ≡ counts e f g h
same a b c d e f g h p q r s = ap (λ z. counts z b c d) p ∙ ap (λ z. counts e z c d) q ∙ ap (λ z. counts e f z d) r
    ∙ ap (λ z. counts e f g z) s

pub counts_more : (xs : List PageTable) (i : ℕ) (x : PageTable) (l : Level) → i < length xs → x ≡ get_or xs i x → x.level ≡ l
    → counts_in (take (i + 1) xs) ≡ one_more (counts_in (take i xs)) l
counts_more xs i x l h is at = search (rules, count_by_more_yes, count_by_more_no, same)
