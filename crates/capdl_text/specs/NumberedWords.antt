-- Words that end in a digit, as most names of objects do: few of them have a meaning of their own.
use Rattle.std.specs.Prelude.{ℕ, Bool, false, ◌-◌, ◌||◌, if◌then◌else◌, List, length, codes}
use Rattle.capdl_text.specs.Below.{bytes_eq, is_digit, option_map_or, slice_get}
use Rattle.capdl_text.specs.declared.token.Word.{Word}
use Rattle.capdl_text.specs.declared.token.Word.TheVariants as words

-- the last byte is a digit
abbrev pub ends_in_digit : List ℕ → Bool
ends_in_digit text = option_map_or is_digit (slice_get text (length text - 1)) false

-- what such a word stands for
abbrev pub numbered_word : List ℕ → Word
numbered_word text = if bytes_eq text (codes "arm11") then words.Arm11 else if bytes_eq text (codes "aarch64") then
    words.Aarch64 else words.Plain

-- such a word is left out
abbrev pub is_numbered_left_out : List ℕ → Bool
is_numbered_left_out text = bytes_eq text (codes "ia32") || bytes_eq text (codes "x86_64")
