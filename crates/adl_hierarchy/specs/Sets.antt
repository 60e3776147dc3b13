-- Sets of numbers below a size, in the order in which they came.
use Rattle.std.specs.Prelude.{◌≡◌, ◌<◌, ◌^◌, ℕ, Bool, true, false, List, ◌∷◌, ◌++◌, [], length, slice_index_or, nat_eq, refl, if◌then◌else◌}
use Rattle.std.specs.List.{IsDistinct}
use Rattle.std.specs.Coded.{Coded, code_by, coded×, coded_ℕ, coded_list}
use Rattle.adl_meaning.specs.Graph.{has}

pub record Numbers : Type 0 where
  pub size : ℕ
  pub list : List ℕ

abbrev pub coded_numbers : Coded Numbers
coded_numbers = code_by (ℕ × List ℕ) (coded× coded_ℕ (coded_list coded_ℕ)) (λ s. (s.size, s.list))
    (λ p. record { size = p.0; list = p.1 }) (λ _. refl)

-- the marks are those of the numbers in the list, each of which stands once
pub record AreMarks (marks : List Bool) (list : List ℕ) : Type 0 where
  pub each : (x : ℕ) → x < length marks → slice_index_or marks x false ≡ has list x
  pub below : (x : ℕ) → has list x ≡ true → x < length marks
  pub distinct : IsDistinct nat_eq list
  pub size : length marks < 2 ^ 32

-- the list with the number, at the end if it is new
abbrev pub with_number : List ℕ → ℕ → List ℕ
with_number xs x = if has xs x then xs else xs ++ x ∷ []
