-- The numbers that have a label.
use Rattle.std.specs.Prelude.{◌≡◌, ◌<◌, ◌^◌, ℕ, Bool, true, false, List, Option, Some, None}
use Rattle.policy_text.specs.Below.{Bor, bytes_eq, list_any, nat_cmp, option_map_or}
use Rattle.std.specs.BTreeSet.{BTreeSet, contains}
use Rattle.policy_text.specs.Entries.{Number, value}
use Rattle.policy_text.specs.WordSets.{has}
use Rattle.policy_text.specs.declared.words.Words.{Words}
use Rattle.policy_text.specs.declared.known.Known.{Known}
use Rattle.policy_text.specs.declared.known.Known.TheVariants.{Lines, Labels}

abbrev pub knows : Known → Number → Bool
knows (Lines numbers near) n = has numbers n
knows (Labels numbers near) n = option_map_or (λ v. contains nat_cmp numbers v) (value n) false

-- the numbers of labels fit 32 bits
abbrev pub IsSmall : BTreeSet ℕ → Type 0
IsSmall numbers = (n : ℕ) → contains nat_cmp numbers n ≡ true → n < 2 ^ 32

-- the numbers that are found by their place are among them
abbrev pub IsNear : List (Bor (List ℕ)) → Words → Type 0
IsNear near numbers = (n : List ℕ) → list_any (λ w. bytes_eq w.now n) near ≡ true → has numbers n ≡ true

-- a value below this one
abbrev pub IfLow : ℕ → Option ℕ → Type 0
IfLow near None = ⊥
IfLow near (Some v) = v < near

abbrev pub IsRight : Known → Type 0
IsRight (Lines numbers near) = IsNear near.items numbers
IsRight (Labels numbers near) = (n : ℕ) → n < near → contains nat_cmp numbers n ≡ true
