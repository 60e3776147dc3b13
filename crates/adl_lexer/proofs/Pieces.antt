-- What stands at the front, by the class of the first byte.
use Rattle.adl_lexer.proofs.Common.{Fits, Found, IsPiece, Kind, List, None, Option, Piece, Result, Some, Stop, after_comment, after_run, among, arrow_line, blanks, class_of, digits, false, if_true, inr, less, less_fault, less_line, letters}
use Rattle.adl_lexer.proofs.Common.{mark_line, minus, minus_fault, ne_eqb, number_fault, number_line, quote, reads, refl, run, sign_fault, slash, slash_fault, subst, sym, text_fault, text_line, token_form, true, word_bytes, word_fault, word_line, ℕ}
use Rattle.adl_lexer.proofs.Common.{rules, ◌==◌, ◌∙◌, ◌∷◌, ◌≡◌}
use Rattle.adl_lexer.specs.declared.piece.Piece.TheVariants as pieces
use Rattle.adl_lexer.specs.Gaps.{one_gap}
use Rattle.adl_lexer.specs.LexFaults.{fault_at}
use Rattle.adl_lexer.proofs.Classes.{letter_cases, digit_cases}

-- what a piece fits may be said in other words
fits_as : {r s : Result (Kind × List ℕ) Stop} {f g : Found} {o q : Option (List ℕ)} (p : Piece) → r ≡ s → f ≡ g → o ≡ q
    → Fits s g q p → Fits r f o p
fits_as (pieces.Gap after) e h k fit = k ∙ fit
fits_as (pieces.Token kind after) e h k fit = (e ∙ fit.0, h ∙ fit.1)
fits_as (pieces.Bad code text) e h k fit = h ∙ fit

module _ (b : ℕ) (rest : List ℕ) where
  word_front : (p : Piece) → among letters (class_of b) ≡ true
      → Fits (reads word_line (b ∷ rest)) (word_fault (run word_bytes (b ∷ rest))) None p → IsPiece (b ∷ rest) p
  unfolding fault_at one_gap
  word_front p h fit = search (rules, letter_cases, fits_as)

  number_front : (p : Piece) → among digits (class_of b) ≡ true
      → Fits (reads number_line (b ∷ rest)) (number_fault (run word_bytes (b ∷ rest)) (after_run word_bytes (b ∷ rest))) None p
      → IsPiece (b ∷ rest) p
  unfolding fault_at one_gap
  number_front p h fit = search (rules, digit_cases, fits_as)

  slash_front : (p : Piece) → class_of b ≡ slash → Fits (reads token_form (b ∷ rest)) (slash_fault (b ∷ rest))
      (after_comment rest) p → IsPiece (b ∷ rest) p
  unfolding fault_at one_gap
  slash_front p c fit = fits_as p refl (rw c refl) (rw c refl) fit

  less_front : (p : Piece) → class_of b ≡ less → Fits (reads less_line (b ∷ rest)) (less_fault (b ∷ rest)) None p
      → IsPiece (b ∷ rest) p
  unfolding fault_at one_gap
  less_front p c fit = fits_as p (rw c refl) (rw c refl) (rw c refl) fit

  minus_front : (p : Piece) → class_of b ≡ minus → Fits (reads arrow_line (b ∷ rest)) (minus_fault (b ∷ rest)) None p
      → IsPiece (b ∷ rest) p
  unfolding fault_at one_gap
  minus_front p c fit = fits_as p (rw c refl) (rw c refl) (rw c refl) fit

  text_front : (p : Piece) → class_of b ≡ quote → Fits (reads text_line (b ∷ rest)) (text_fault (b ∷ rest)) None p
      → IsPiece (b ∷ rest) p
  unfolding fault_at one_gap
  text_front p c fit = fits_as p (rw c refl) (rw c refl) (rw c refl) fit

  sign_front : (p : Piece) → among letters (class_of b) ≡ false → among digits (class_of b) ≡ false
      → among blanks (class_of b) ≡ false → (class_of b == slash) ≡ false → (class_of b == less) ≡ false
      → (class_of b == minus) ≡ false → (class_of b == quote) ≡ false → Fits (reads mark_line (b ∷ rest)) (sign_fault (b ∷ rest))
      None p → IsPiece (b ∷ rest) p
  unfolding fault_at one_gap
  sign_front p h1 h2 h3 h4 h5 h6 h7 fit = fits_as p (rw (h1, h2, h7, h5, h6) refl) (rw (h1, h2, h3, h4, h5, h6, h7) refl)
      (rw (h3, h4) refl) fit

module _ (b : ℕ) (bs rest : List ℕ) (p : Piece) (cut : bs ≡ b ∷ rest) where
  pub word_piece : among letters (class_of b) ≡ true → Fits (reads word_line bs) (word_fault (run word_bytes bs)) None p
      → IsPiece bs p
  word_piece h fit = subst (λ (w : List ℕ). IsPiece w p) (sym cut)
      (word_front b rest p h (subst (λ (w : List ℕ). Fits (reads word_line w) (word_fault (run word_bytes w)) None p) cut fit))

  pub number_piece : among digits (class_of b) ≡ true
      → Fits (reads number_line bs) (number_fault (run word_bytes bs) (after_run word_bytes bs)) None p → IsPiece bs p
  number_piece h fit = search (rules, number_front)

  pub slash_piece : class_of b ≡ slash → Fits (reads token_form bs) (slash_fault bs) (after_comment rest) p → IsPiece bs p
  slash_piece h fit = subst (λ (w : List ℕ). IsPiece w p) (sym cut)
      (slash_front b rest p h (subst (λ (w : List ℕ). Fits (reads token_form w) (slash_fault w) (after_comment rest) p) cut fit))

  pub less_piece : class_of b ≡ less → Fits (reads less_line bs) (less_fault bs) None p → IsPiece bs p
  less_piece h fit = subst (λ (w : List ℕ). IsPiece w p) (sym cut)
      (less_front b rest p h (subst (λ (w : List ℕ). Fits (reads less_line w) (less_fault w) None p) cut fit))

  pub minus_piece : class_of b ≡ minus → Fits (reads arrow_line bs) (minus_fault bs) None p → IsPiece bs p
  minus_piece h fit = subst (λ (w : List ℕ). IsPiece w p) (sym cut)
      (minus_front b rest p h (subst (λ (w : List ℕ). Fits (reads arrow_line w) (minus_fault w) None p) cut fit))

  pub text_piece : class_of b ≡ quote → Fits (reads text_line bs) (text_fault bs) None p → IsPiece bs p
  text_piece h fit = subst (λ (w : List ℕ). IsPiece w p) (sym cut)
      (text_front b rest p h (subst (λ (w : List ℕ). Fits (reads text_line w) (text_fault w) None p) cut fit))

  pub sign_piece : among letters (class_of b) ≡ false → among digits (class_of b) ≡ false → among blanks (class_of b) ≡ false
      → (class_of b ≡ slash → ⊥) → (class_of b ≡ less → ⊥) → (class_of b ≡ minus → ⊥) → (class_of b ≡ quote → ⊥)
      → Fits (reads mark_line bs) (sign_fault bs) None p → IsPiece bs p
  sign_piece h1 h2 h3 h4 h5 h6 h7 fit = search (rules, sign_front, ne_eqb)

-- a blank is passed
pub blank_piece : (b : ℕ) (bs rest : List ℕ) → bs ≡ b ∷ rest → among blanks (class_of b) ≡ true → one_gap bs ≡ Some rest
unfolding one_gap
blank_piece b bs rest cut h = rw cut (if_true (among blanks (class_of b)) (Some rest) _ h)
