-- The examples of kept and faulty specs, computed.
use Rattle.cap_model.proofs.Common.{Entry, IsKept, Spec, and_parts, keeps, keeps_lines, list_all, ltb-true, names_differ, rules}
use Rattle.std.specs.Prelude.{not, ◌≡◌, ◌&&◌, ◌^◌, ℕ, Bool, true, Some, slice_get, length, nat_lt, refl}
use Rattle.cap_model.proofs.Kept.{all_at}
use Rattle.cap_model.specs.KeptExamples.{kept_ones, faulty_ones}

abbrev all_kept : Spec → Bool
all_kept spec = list_all (λ (entry : Entry). keeps spec entry.object) spec.entries

-- the conditions as one test
abbrev tests : Spec → Bool
tests spec = (nat_lt (length spec.entries) (2 ^ 32) && names_differ spec.entries) && (all_kept spec && keeps_lines spec spec.irqs)

from_tests : (spec : Spec) → tests spec ≡ true → IsKept spec
from_tests spec h = search (rules, and_parts, ltb-true)

to_tests : (spec : Spec) → IsKept spec → tests spec ≡ true
to_tests spec kept = search (rules)

pub kept_ones_kept : (i : ℕ) (spec : Spec) → slice_get kept_ones i ≡ Some spec → IsKept spec
kept_ones_kept i spec there = from_tests spec (all_at tests kept_ones i spec refl there)

pub faulty_ones_not_kept : (i : ℕ) (spec : Spec) → slice_get faulty_ones i ≡ Some spec → IsKept spec → ⊥
faulty_ones_not_kept i spec there kept =
    let fails : not (tests spec) ≡ true = all_at (λ (s : Spec). not (tests s)) faulty_ones i spec refl there in
    let passes : tests spec ≡ true = to_tests spec kept in
    let no : not true ≡ true = rw passes at fails in
    absurd cc
