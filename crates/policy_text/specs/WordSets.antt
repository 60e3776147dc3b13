-- Sets of words that stand in a text.
use Rattle.std.specs.Prelude.{◌≡◌, ℕ, ◌+◌, Bool, ◌||◌, if◌then◌else◌, List}
use Rattle.policy_text.specs.Below.{bytes_eq, is_some}
use Rattle.name_tables.specs.Naming.{spread_found}
use Rattle.policy_text.specs.declared.words.Words.{Words}

abbrev pub has : Words → List ℕ → Bool
has set word = is_some (spread_found set.words word)

-- the new set has this word, and the words of the old one
pub record IsAdded (word : List ℕ) (old new : Words) : Type 0 where
  pub each : (other : List ℕ) → has new other ≡ (bytes_eq word other || has old other)
  pub len : new.len ≡ old.len + (if has old word then 0 else 1)
