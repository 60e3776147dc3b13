-- Slots whose numbers rise are sorted as they stand.
use Rattle.std.proofs.Common.{rules}
use Rattle.capdl_read.proofs.Common.{AllByRecursion, Cap, Key, List, Option, Slot, SlotKey, Some, [], add-one, ap, drop, get_or, insert_entry, is_above, length, ltb-true, nat_cmp, numbered_from, put_slot, refl, subst, sym, true, ℕ, ◌++◌, ◌+◌, ◌<◌}
use Rattle.capdl_read.proofs.Common.{◌∙◌, ◌∷◌, ◌≡◌}
use Rattle.std.proofs.Math.Seq.{drop-cons}
use Rattle.cam_base.proofs.Orders.{nat_cmp-greater}
use Rattle.capdl_text.specs.declared.tree.SlotKey.TheVariants as keys
use Rattle.capdl_read.proofs.NoneTwice.{above_both}

-- each number above the last stands behind all of these
abbrev pub AreBehind : List (ℕ × Cap) → Option Key → Type 0
AreBehind slots last = (n : ℕ) → is_above last (0, n) ≡ true → AllByRecursion (λ s. s.0 < n) slots

insert_last : (slots : List (ℕ × Cap)) (n : ℕ) (cap : Cap) → AllByRecursion (λ s. s.0 < n) slots
    → insert_entry nat_cmp slots n cap ≡ slots ++ (n, cap) ∷ []
insert_last [] n cap below = refl
insert_last (s ∷ ss) n cap below = rw (nat_cmp-greater n s.0 below.0) (ap (λ rest. s ∷ rest) (insert_last ss n cap below.1))

below_all : (slots : List (ℕ × Cap)) (m n : ℕ) (cap : Cap) → AllByRecursion (λ s. s.0 < n) slots → m < n
    → AllByRecursion (λ s. s.0 < n) (slots ++ (m, cap) ∷ [])
below_all [] m n cap below less = (less, _)
below_all (s ∷ ss) m n cap below less = (below.0, below_all ss m n cap below.1 less)

-- a slot above the last, put in, stands behind all
pub put_behind : (new old : List (ℕ × Cap)) (last : Option Key) (s : Slot) (n : ℕ) (ss : List Slot) (i : ℕ) → i < length ss
    → (get_or ss i s).key ≡ keys.Number n → is_above last (0, n) ≡ true
    → AreBehind old last → new ≡ old ++ (n, (get_or ss i s).cap) ∷ []
    → (numbered_from new (drop (i + 1) ss) ≡ numbered_from old (drop i ss)) × AreBehind new (Some (0, n))
put_behind new old last s n ss i l k a behind p = search (rules, insert_last, drop-cons, add-one, below_all, above_both, ltb-true)
