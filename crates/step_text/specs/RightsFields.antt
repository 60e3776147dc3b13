-- Rights as a field: a word of R, W, G and P, each at most once, in any order, or - for none.
use Rattle.std.specs.Prelude.{ℕ, ◌==◌, leb, Bool, false, not, ◌&&◌, ◌||◌, if◌then◌else◌, List, length, count_by, codes, Option, Some, None}
use Rattle.step_text.specs.Below.{Rights, bytes_eq, grant_letter, list_all, list_any, read_letter, reply_letter, write_letter}

abbrev pub is_right : ℕ → Bool
is_right b = b == read_letter || (b == write_letter || (b == grant_letter || b == reply_letter))

abbrev pub has_letter : ℕ → List ℕ → Bool
has_letter letter word = list_any (λ b. b == letter) word

abbrev pub once : ℕ → List ℕ → Bool
once letter word = leb (count_by (λ b. b == letter) word) 1

abbrev pub each_once : List ℕ → Bool
each_once word = once read_letter word && (once write_letter word && (once grant_letter word && once reply_letter word))

abbrev pub is_rights : List ℕ → Bool
is_rights word = not (length word == 0) && (list_all is_right word && each_once word)

abbrev pub rights_value : List ℕ → Option Rights
rights_value word =
    if bytes_eq word (codes "-") then Some (record { read = false; write = false; grant = false; reply = false })
    else if is_rights word then Some (record {
      read = has_letter read_letter word;
      write = has_letter write_letter word;
      grant = has_letter grant_letter word;
      reply = has_letter reply_letter word;
    })
    else None
