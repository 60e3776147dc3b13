-- What a table of threads finds.
use Rattle.std.specs.Prelude.{ℕ, Bool, List, Option, Some, None}
use Rattle.step_text.specs.Below.{Bor, bytes_eq}
use Rattle.indexmap.specs.IndexMap.{get_by}
use Rattle.step_text.specs.declared.threads.Threads.{Threads}
use Rattle.step_text.specs.Spelling.{any_word}

-- the key is the name
abbrev pub named : List ℕ → Bor (List ℕ) → Bool
named name key = bytes_eq name key.now

abbrev pub found_in : Threads → List ℕ → Option ℕ
found_in threads name = get_by (named name) threads.places

-- where no threads are given, every word names one
abbrev pub place_among : Option (Bor Threads) → List ℕ → Option ℕ
place_among None name = any_word name
place_among (Some threads) name = found_in threads.now name
