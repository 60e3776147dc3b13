-- Regions stand apart
use Rattle.vspace_layout.proofs.Common.{Aarch64, Arch, Arm11, Given, List, Region, RegionsAreApart, Some, [], ap, arch, arith, pages_in, refl, regions, sections_end, slice_get, suc, take, zero, ℕ, ◌%◌, ◌+◌, ◌<◌, ◌∷◌, ◌≡◌, ◌≤◌}

-- the pages before a later region hold those of an earlier one
summed : (rs : List Region) (i j : ℕ) (r : Region) → i < j → slice_get rs i ≡ Some r
    → pages_in (take i rs) + r.pages ≤ pages_in (take j rs)
summed [] i j r l e = cc
summed (q ∷ rs) i zero r l e = absurd (omega (arith, l))
summed (q ∷ rs) zero (suc j) r l e = let is : q ≡ r = cc in let same : q.pages ≡ r.pages = ap (λ (z : Region). z.pages) is in
    omega (arith, same)
summed (q ∷ rs) (suc i) (suc j) r l e = let ih = summed rs i j r (omega (arith, l)) e in omega (arith, ih)

whole : (a : Arch) → sections_end a % 4096 ≡ 0
whole Arm11 = refl
whole Aarch64 = refl

pub apart : (t : Given) (d : ℕ) → RegionsAreApart t d
apart t d = record {
  apart = λ i j r l e. (let s = summed (regions t d) i j r l e in omega (arith, s, l));
  aligned = λ i. (let w = whole (arch t) in omega (arith, w));
  above = λ i. omega arith;
}
