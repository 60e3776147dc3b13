-- The first field of a text, and the fields behind it.
use Rattle.policy_text.proofs.Common.{Bool, Kind, List, None, Some, [], arith, drop, entry_of, fails_before_first, false, fields, length, length-drop, length-slice_split, ltb-true, nat_lt, nat_tests, position, refl}
use Rattle.policy_text.proofs.Common.{rules, slice_split_first, slice_split_none, take, take_all, true, ℕ, ◌+◌, ◌-◌, ◌<◌, ◌==◌, ◌∙◌, ◌∷◌, ◌≡◌, ◌≤◌}

pub cut_some : (text : List ℕ) (n : ℕ) → position (λ b. b == 32) text ≡ Some n
    → fields text ≡ take n text ∷ fields (take (length text - (n + 1)) (drop (n + 1) text))
cut_some text n e = search (rules, nat_lt, slice_split_first, ltb-true, take_all, length-drop)

pub cut_none : (text : List ℕ) → position (λ b. b == 32) text ≡ None → fields text ≡ text ∷ []
cut_none text e = search (rules, nat_lt, nat_tests, slice_split_none, fails_before_first)

-- five fields say nothing
five_or_more : (kind : Kind) (word l a m : List ℕ) (fs : List (List ℕ)) → 0 < length fs
    → entry_of kind (word ∷ l ∷ a ∷ m ∷ fs) ≡ None
five_or_more kind word l a m [] lt = absurd (omega arith)
five_or_more kind word l a m (f ∷ fs) lt = refl

pub five_fields : (kind : Kind) (word l a m rest : List ℕ) → entry_of kind (word ∷ l ∷ a ∷ m ∷ fields rest) ≡ None
five_fields kind word l a m rest =
    five_or_more kind word l a m (fields rest) (omega (arith, length-slice_split (λ b. b == 32) rest))
