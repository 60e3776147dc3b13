-- What stands behind a gap or token is the end of the bytes, and a place cuts out its text.
use Rattle.adl_lexer.proofs.Common.{All, All-cons, All-nil, Bool, IsGap, IsTextOf, LexesFrom, List, None, Some, Token, [], after_close, after_comment, after_line, ap, append_assoc, arith, cases_Bool, cond, drop, false}
use Rattle.adl_lexer.proofs.Common.{if_false, if_true, inl, inr, length, length-append, more, none, none_is_not, place_of, refl, rules, same_Some, subst, sym, take, text_at, true, ℕ, ◌&&◌, ◌++◌, ◌-◌, ◌==◌, ◌∙◌, ◌∷◌, ◌≡◌}
use Rattle.std.proofs.Math.Seq.{take-append_seam, drop-append_seam}
use Rattle.adl_lexer.specs.Gaps.{one_gap}
use Rattle.adl_lexer.proofs.TokenTexts.{text_of_kind}

-- these bytes end those
abbrev EndsIn : List ℕ → List ℕ → Type 0
EndsIn bs cs = (before : List ℕ) × (bs ≡ before ++ cs)

ends_later : (b : ℕ) (bs cs : List ℕ) → EndsIn bs cs → EndsIn (b ∷ bs) cs
ends_later b bs cs e = (b ∷ e.0, ap (λ (w : List ℕ). b ∷ w) e.1)

ends_in_end : (bs cs ds : List ℕ) → EndsIn bs cs → EndsIn cs ds → EndsIn bs ds
ends_in_end bs cs ds e f = (e.0 ++ f.0, e.1 ∙ ap (λ (w : List ℕ). e.0 ++ w) f.1 ∙ sym (append_assoc e.0 f.0 ds))

ends_in_some : (bs x cs : List ℕ) → EndsIn bs x → Some x ≡ Some cs → EndsIn bs cs
ends_in_some bs x cs e p = subst (λ (w : List ℕ). EndsIn bs w) (same_Some x cs p) e

after_line_ends : (bs : List ℕ) → EndsIn bs (after_line bs)
after_line_ends [] = ([], refl)
after_line_ends (b ∷ bs) = elim (cases_Bool (b == 10)) [
  | inl h ↦ rw h (b ∷ [], refl)
  | inr h ↦
      rw h (ends_later b bs (after_line bs) (after_line_ends bs))
]

after_close_ends : (bs cs : List ℕ) → after_close bs ≡ Some cs → EndsIn bs cs
after_close_ends [] cs e = none_is_not cs e
after_close_ends (a ∷ []) cs e = none_is_not cs e
after_close_ends (a ∷ b ∷ bs) cs e = elim (cases_Bool (a == 42 && b == 47)) [
  | inl h ↦ ends_in_some (a ∷ b ∷ bs) bs cs (a ∷ b ∷ [], refl)
      (sym (if_true (a == 42 && b == 47) (Some bs) (after_close (b ∷ bs)) h) ∙ e)
  | inr h ↦
      ends_later a (b ∷ bs) cs
      (after_close_ends (b ∷ bs) cs (sym (if_false (a == 42 && b == 47) (Some bs) (after_close (b ∷ bs)) h) ∙ e))
]

after_comment_ends : (bs cs : List ℕ) → after_comment bs ≡ Some cs → EndsIn bs cs
after_comment_ends [] cs e = none_is_not cs e
after_comment_ends (b ∷ bs) cs e = go (b == 47) (b == 42) e
  where
    go : (is_line is_star : Bool) → cond is_line (Some (after_line bs)) (cond is_star (after_close bs) None) ≡ Some cs
        → EndsIn (b ∷ bs) cs
    go true is_star q = ends_in_some (b ∷ bs) (after_line bs) cs (ends_later b bs (after_line bs) (after_line_ends bs)) q
    go false true q = ends_later b bs cs (after_close_ends bs cs q)
    go false false q = none_is_not cs q

gap_ends : (bs cs : List ℕ) → one_gap bs ≡ Some cs → EndsIn bs cs
unfolding one_gap
gap_ends [] cs e = none_is_not cs e
gap_ends (b ∷ bs) cs e = search (rules, ends_in_some, ends_later, after_comment_ends, none_is_not)

gaps_end : (bs rest : List ℕ) → IsGap bs rest → EndsIn bs rest
gaps_end bs rest none = ([], refl)
gaps_end bs rest (more {cs = cs} e g) = ends_in_end bs cs rest (gap_ends bs cs e) (gaps_end cs rest g)

front_taken : (a rest : List ℕ) (n : ℕ) → n ≡ length a → take n (a ++ rest) ≡ a
front_taken a rest n e = rw e (take-append_seam a rest)

front_dropped : (a rest : List ℕ) (n : ℕ) → n ≡ length a → drop n (a ++ rest) ≡ rest
front_dropped a rest n e = rw e (drop-append_seam a rest)

-- a place cuts out the bytes between
cut_out : (file : ℕ) (bytes here text rest : List ℕ) → EndsIn bytes here → here ≡ text ++ rest
    → text_at bytes (place_of file (length bytes) here rest) ≡ text
cut_out file bytes here text rest e p = search (rules, length-append, front_dropped, front_taken)

pub texts_of_kinds : (file : ℕ) (bytes bs : List ℕ) (ts : List Token) → EndsIn bytes bs → LexesFrom file (length bytes) bs ts
    → All (λ t. IsTextOf t.kind (text_at bytes t.place)) ts
texts_of_kinds file bytes bs [] e l = All-nil (λ t. IsTextOf t.kind (text_at bytes t.place))
texts_of_kinds file bytes bs (t ∷ ts) e l =
    let token = l.3 in
    let to_here : EndsIn bytes l.0 = ends_in_end bytes bs l.0 e (gaps_end bs l.0 l.2) in
    let text : text_at bytes t.place ≡ token.text = ap (text_at bytes) l.4 ∙ cut_out file bytes l.0 token.text l.1 to_here
    token.parts in
    All-cons (λ t. IsTextOf t.kind (text_at bytes t.place)) t ts (subst (λ (w : List ℕ). IsTextOf t.kind w) (sym text)
    (text_of_kind l.0 t.kind l.1 token))
    (texts_of_kinds file bytes l.1 ts (ends_in_end bytes l.0 l.1 to_here (token.text, token.parts)) l.5)
