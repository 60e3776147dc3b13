-- A name tells its series and its number.
use Rattle.spec_laws.proofs.Common.{List, Series, [], ap, append_cancel_left, cond, decimal, decimal_injective, name_of, prefix, refl, rules, sym, ℕ, ◌++◌, ◌<◌, ◌==◌, ◌^◌, ◌∙◌, ◌∷◌, ◌≡◌}
use Rattle.system_spec.specs.declared.series.Series.TheVariants.{CNode, Tcb, Ep, Ntfn, Lock, Irq, Pgd, Pud, Pd, Pt, Frame}

abbrev by_second : ℕ → Series
by_second b = cond (b == 103) Pgd (cond (b == 117) Pud (cond (b == 100) Pd Pt))

abbrev by_letters : ℕ → ℕ → Series
by_letters a b =
    cond (a == 99) CNode
    (cond (a == 116) Tcb
    (cond (a == 101) Ep
    (cond (a == 110) Ntfn (cond (a == 108) Lock (cond (a == 105) Irq (cond (a == 102) Frame (by_second b)))))))

abbrev series_of : List ℕ → Series
series_of [] = Irq
series_of (a ∷ []) = Irq
series_of (a ∷ b ∷ rest) = by_letters a b

series_found : (s : Series) (rest : List ℕ) → series_of (prefix s ++ rest) ≡ s
series_found CNode rest = refl
series_found _ rest = refl

pub same_series : (s r : Series) (m n : ℕ) → name_of s m ≡ name_of r n → s ≡ r
same_series s r m n e = sym (series_found s (decimal m)) ∙ ap series_of e ∙ series_found r (decimal n)

pub same_number : (s r : Series) (m n : ℕ) → m < 2 ^ 64 → n < 2 ^ 64 → name_of s m ≡ name_of r n → m ≡ n
same_number s r m n l k e = search (rules, same_series, decimal_injective, append_cancel_left)
