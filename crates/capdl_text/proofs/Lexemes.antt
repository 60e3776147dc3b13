-- Tokens as readers keep them are the tokens.
use Rattle.std.proofs.Common.{rules}
use Rattle.capdl_text.proofs.Common.{Bool, IsTokenAt, Kind, Lexeme, List, Mark, None, Option, Some, Token, [], after_close, after_dash, after_line, after_slash, ap, append_assoc, arith, bytes_eq, codes, cond, digits_kind, drop, drop-map}
use Rattle.capdl_text.proofs.Common.{drop_at, ends_text, false, is_blank, is_digit, is_end, is_letter, is_word_byte, kind_with, length, length-append, length-map, list_all, mark_of, none_is_not}
use Rattle.capdl_text.proofs.Common.{number_value, option_map, place_of, refl, same_Some, see, sees, sort_of, subst, sym, take, take_at, text_at, token_of, tokens_of, true, unwrap_or, value_at, word_of, ℕ, ◌&&◌, ◌++◌, ◌-◌}
use Rattle.capdl_text.proofs.Common.{◌==◌, ◌∙◌, ◌∷◌, ◌≡◌}
use Rattle.capdl_text.specs.declared.token.Kind.TheVariants as kinds
use Rattle.capdl_text.specs.declared.token.Word.{Word}
use Rattle.capdl_text.specs.Gaps.{one_gap}
use Rattle.capdl_text.specs.TokenKinds.{kind_of}

-- ---- lists of them

pub sees_tokens : (bytes : List ℕ) (ls : List Lexeme) → sees bytes ls ≡ see bytes (tokens_of bytes ls)
sees_tokens bytes [] = refl
sees_tokens bytes (l ∷ ls) = rw (sees_tokens bytes ls) refl

pub tokens_more : (bytes : List ℕ) (ls : List Lexeme) (l : Lexeme) (ts : List Token) → tokens_of bytes (ls ++ l ∷ [])
    ++ ts ≡ tokens_of bytes ls ++ token_of bytes l ∷ ts
tokens_more bytes [] l ts = refl
tokens_more bytes (x ∷ ls) l ts = ap (λ (v : List Token). token_of bytes x ∷ v) (tokens_more bytes ls l ts)

-- those of which so many are left
pub tokens_left : (bytes : List ℕ) (ls : List Lexeme) (left : ℕ)
    → drop (length (tokens_of bytes ls) - left) (tokens_of bytes ls) ≡ tokens_of bytes (drop (length ls - left) ls)
tokens_left bytes ls left = ap (λ (n : ℕ). drop (n - left) (tokens_of bytes ls)) (length-map ls (token_of bytes))
    ∙ drop-map (token_of bytes) (length ls - left) ls

-- ---- a gap is the front of the bytes

-- the rest is a tail of the bytes
abbrev pub IsTail : List ℕ → List ℕ → Type 0
IsTail bs rest = (front : List ℕ) × (bs ≡ front ++ rest)

tail_of : (b : ℕ) (bs rest : List ℕ) → IsTail bs rest → IsTail (b ∷ bs) rest
tail_of b bs rest t = (b ∷ t.0, ap (λ (w : List ℕ). b ∷ w) t.1)

line_tail : (bs : List ℕ) → IsTail bs (after_line bs)
line_tail [] = ([], refl)
line_tail (b ∷ bs) = go (b == 10) (line_tail bs)
  where
    go : (t : Bool) → IsTail bs (after_line bs) → IsTail (b ∷ bs) (cond t (b ∷ bs) (after_line bs))
    go true r = ([], refl)
    go false r = tail_of b bs (after_line bs) r

close_tail : (bs rest : List ℕ) → after_close bs ≡ Some rest → IsTail bs rest
close_tail [] rest e = none_is_not rest e
close_tail (a ∷ []) rest e = none_is_not rest e
close_tail (a ∷ b ∷ bs) rest e = go (a == 42 && b == 47) (λ p. close_tail (b ∷ bs) rest p) e
  where
    go : (t : Bool) → (after_close (b ∷ bs) ≡ Some rest → IsTail (b ∷ bs) rest)
        → cond t (Some bs) (after_close (b ∷ bs)) ≡ Some rest → IsTail (a ∷ b ∷ bs) rest
    go true r p = (a ∷ b ∷ [], ap (λ (w : List ℕ). a ∷ b ∷ w) (same_Some bs rest p))
    go false r p = tail_of a (b ∷ bs) rest (r p)

line_tail_of : (b : ℕ) (bs rest : List ℕ) → Some (after_line bs) ≡ Some rest → IsTail (b ∷ bs) rest
line_tail_of b bs rest p = tail_of b bs rest (subst (λ (w : List ℕ). IsTail bs w) (same_Some (after_line bs) rest p)
    (line_tail bs))

slash_tail : (bs rest : List ℕ) → after_slash bs ≡ Some rest → IsTail bs rest
slash_tail [] rest e = none_is_not rest e
slash_tail (b ∷ bs) rest e = search (rules, line_tail_of, tail_of, close_tail, none_is_not)

dash_tail : (bs rest : List ℕ) → after_dash bs ≡ Some rest → IsTail bs rest
dash_tail [] rest e = none_is_not rest e
dash_tail (b ∷ bs) rest e = search (rules, line_tail_of, none_is_not)

gap_tail : (bs rest : List ℕ) → one_gap bs ≡ Some rest → IsTail bs rest
unfolding one_gap
gap_tail [] rest e = none_is_not rest e
gap_tail (b ∷ bs) rest e = search (rules, same_Some, tail_of, slash_tail, dash_tail, none_is_not)

tail_on : (bs mid rest front : List ℕ) → IsTail bs mid → mid ≡ front ++ rest → IsTail bs rest
tail_on bs mid rest front t e = (t.0 ++ front, t.1 ∙ ap (λ (w : List ℕ). t.0 ++ w) e ∙ sym (append_assoc t.0 front rest))

pub tail_past_gap : (bytes bs rest : List ℕ) → IsTail bytes bs → one_gap bs ≡ Some rest → IsTail bytes rest
tail_past_gap bytes bs rest t e = let g = gap_tail bs rest e in tail_on bytes bs rest g.0 t g.1

-- ---- a token's bytes have its value

digits_number : (w : List ℕ) (n : ℕ) → digits_kind w ≡ Some (kinds.Number n) → number_value w ≡ Some n
digits_number w n e = search (rules, none_is_not)

number_text : (text : List ℕ) (n : ℕ) → kind_of text ≡ Some (kinds.Number n) → number_value text ≡ Some n
unfolding kind_of
number_text [] n e = none_is_not (kinds.Number n) e
number_text (b ∷ bs) n e = go (is_letter b) (list_all is_word_byte bs) (is_digit b) (b == 34) (ends_text bs) (is_end bs)
    (word_of (b ∷ bs)) (mark_of b) e
  where
    go : (x a y z t u : Bool) (w : Word) (m : Option Mark)
        → cond x (cond a (Some (kinds.Word w)) None)
        (cond y (digits_kind (b ∷ bs)) (cond z (cond t (Some kinds.Text) None) (cond u (option_map kinds.Mark m) None))) ≡ Some
        (kinds.Number n) → number_value (b ∷ bs) ≡ Some n
    go true true y z t u w m p = absurd cc
    go true false y z t u w m p = none_is_not (kinds.Number n) p
    go false a true z t u w m p = digits_number (b ∷ bs) n p
    go false a false true true u w m p = absurd cc
    go false a false true false u w m p = none_is_not (kinds.Number n) p
    go false a false false t true w None p = none_is_not (kinds.Number n) p
    go false a false false t true w (Some x) p = absurd cc
    go false a false false t false w m p = none_is_not (kinds.Number n) p

value_kept : (k : Kind) (text : List ℕ) → kind_of text ≡ Some k → kind_with (sort_of k) (unwrap_or (number_value text) 0) ≡ k
value_kept (kinds.Word word) text e = refl
value_kept (kinds.Number n) text e = rw (number_text text n e) refl
value_kept kinds.Page text e = refl
value_kept kinds.Text text e = refl
value_kept (kinds.Mark mark) text e = refl

-- the bytes between two places
pub text_there : (front text rest : List ℕ) (total : ℕ) → total ≡ length (front ++ (text ++ rest))
    → text_at (front ++ (text ++ rest)) (record { first = total - length (text ++ rest); end = total - length rest }) ≡ text
text_there front text rest total e = search (rules, length-append, drop_at, take_at)

module _ (bytes bs rest : List ℕ) (k : Kind) (token : IsTokenAt bs k rest) (tail : IsTail bytes bs) where
  pub tail_past_token : IsTail bytes rest
  tail_past_token = tail_on bytes bs rest token.text tail token.parts

  text_kept : text_at bytes (place_of (length bytes) bs rest) ≡ token.text
  text_kept = search (rules, text_there)

  -- the token is that of the lexeme at its place
  pub kind_kept : kind_with (sort_of k) (value_at bytes (place_of (length bytes) bs rest)) ≡ k
  kind_kept = ap (λ (w : List ℕ). kind_with (sort_of k) (unwrap_or (number_value w) 0)) text_kept
      ∙ value_kept k token.text token.kind
