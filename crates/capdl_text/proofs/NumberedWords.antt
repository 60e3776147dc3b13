-- Words that end in a digit.
use Rattle.std.proofs.Common.{rules}
use Rattle.capdl_text.proofs.Common.{Bool, List, None, Option, Some, [], and_parts, ap, arith, bytes_eq, bytes_eq-Decides, cases_Bool, codes, cond, false, has_letter, inl, inr, is_digit, is_right, kind_word, length, list_all, nat_tests}
use Rattle.capdl_text.proofs.Common.{not, option_map_or, option_or, part_word, refl, rights_word, slice_get, slot_word, suc, sym, table_word, true, true≢false, unwrap_or, zero, ℕ, ◌==◌, ◌||◌, ◌∙◌, ◌∷◌, ◌≡◌}
use Rattle.std.specs.Prelude.{◌-◌}
use Rattle.std.proofs.Math.Bool.{and-false, or-false}
use Rattle.capdl_text.specs.NumberedWords.{ends_in_digit, is_numbered_left_out, numbered_word}
use Rattle.capdl_text.specs.TokenFaults.{is_left_out_word}
use Rattle.capdl_text.specs.Words.{field_of, word_of}
use Rattle.capdl_text.specs.declared.token.Word.TheVariants as words

-- such a word is none that doesn't end in a digit
no : (text word : List ℕ) → ends_in_digit text ≡ true → ends_in_digit word ≡ false → bytes_eq text word ≡ false
no text word e f = search (rules, cases_Bool, bytes_eq-Decides)

no_turned : (word text : List ℕ) → ends_in_digit text ≡ true → ends_in_digit word ≡ false → bytes_eq word text ≡ false
no_turned word text e f = search (rules, cases_Bool, bytes_eq-Decides)

-- ---- words that it isn't

part_of : (text : List ℕ) → ends_in_digit text ≡ true → part_word text ≡ cond (bytes_eq text (codes "arm11")) (Some words.Arm11)
    (cond (bytes_eq text (codes "aarch64")) (Some words.Aarch64) None)
part_of text e = search (rules, no)

no_kind : (text : List ℕ) → ends_in_digit text ≡ true → kind_word text ≡ None
no_kind text e = search (rules, no)

no_table : (text : List ℕ) → ends_in_digit text ≡ true → table_word text ≡ None
no_table text e = search (rules, no)

no_field : (text : List ℕ) → ends_in_digit text ≡ true → field_of text ≡ None
unfolding field_of
no_field text e = search (rules, no_turned)

no_slot : (text : List ℕ) → ends_in_digit text ≡ true → slot_word text ≡ None
no_slot text e = search (rules, no)

-- ---- it is no rights

passes_at : (p : ℕ → Bool) (text : List ℕ) (i b : ℕ) → list_all p text ≡ true → slice_get text i ≡ Some b → p b ≡ true
passes_at p [] i b h e = absurd cc
passes_at p (c ∷ cs) zero b h e = let first = (and_parts (p c) (list_all p cs) h).0 in let same : c ≡ b = cc in
    ap p (sym same) ∙ first
passes_at p (c ∷ cs) (suc i) b h e = passes_at p cs i b (and_parts (p c) (list_all p cs) h).1 e

not_all : (p : ℕ → Bool) → ((b : ℕ) → is_digit b ≡ true → p b ≡ false) → (text : List ℕ) → ends_in_digit text ≡ true
    → list_all p text ≡ false
not_all p apart text e = search (rules, cases_Bool, passes_at)

no_right : (b : ℕ) → is_digit b ≡ true → is_right b ≡ false
no_right b d = grind (arith, nat_tests)

no_right_or_x : (b : ℕ) → is_digit b ≡ true → (is_right b || b == 88) ≡ false
no_right_or_x b d = grind (arith, nat_tests)

no_rights : (text : List ℕ) → ends_in_digit text ≡ true → rights_word text ≡ None
no_rights text e = search (rules, not_all, no_right, no_right_or_x, and-false)

-- ---- what it is

by_two : (b c : Bool) → unwrap_or (option_or (cond b (Some words.Arm11) (cond c (Some words.Aarch64) None)) None)
    words.Plain ≡ cond b words.Arm11 (cond c words.Aarch64 words.Plain)
by_two true c = refl
by_two false true = refl
by_two false false = refl

pub is_numbered : (text : List ℕ) → ends_in_digit text ≡ true → word_of text ≡ numbered_word text
unfolding word_of
is_numbered text e = search (rules, part_of, no_kind, no_table, no_field, no_slot, no_rights, by_two)

pub numbered_left_out : (text : List ℕ) → ends_in_digit text ≡ true → is_left_out_word text ≡ is_numbered_left_out text
unfolding is_left_out_word
numbered_left_out text e = search (rules, no, or-false)
