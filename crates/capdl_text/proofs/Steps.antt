-- One step of the lexer, and what it leaves of the tokens.
use Rattle.capdl_text.proofs.Common.{IsTokenAt, Kind, LexesFrom, List, Reached, Some, Token, [], ap, append-nil, arith, here, inl, inr, length, length-append, longer_front, more, none, none_is_not, one_gap, past, place_of, refl, same_Some, sym, ℕ}
use Rattle.capdl_text.proofs.Common.{◌++◌, ◌<◌, ◌∙◌, ◌∷◌, ◌≡◌, ◌≤◌, ◌⊎◌}
use Rattle.capdl_text.specs.TokenKinds.{kind_of}
use Rattle.capdl_text.proofs.Gaps.{gap_byte, token_no_gap_byte}

-- two tokens at one place are one
one_token : (bs : List ℕ) (k l : Kind) (rest after : List ℕ) → IsTokenAt bs k rest → IsTokenAt bs l after
    → length rest ≤ length after → (k ≡ l) × (rest ≡ after)
one_token bs k l rest after t u le =
    let r = longer_front t.text u.text rest after (sym t.parts ∙ u.parts) le in
    let kind : kind_of (u.text ++ r.0) ≡ Some k = ap kind_of (sym r.1) ∙ t.kind in
    let same : r.0 ≡ [] = u.longest r.0 rest r.2 (rw kind refl) in
    let texts : u.text ++ r.0 ≡ u.text = ap (λ (w : List ℕ). u.text ++ w) same ∙ append-nil u.text in
    (same_Some k l (sym kind ∙ ap kind_of texts ∙ u.kind), sym (r.2 ∙ ap (λ (w : List ℕ). w ++ rest) same))

pub one_token_of : (bs : List ℕ) (k l : Kind) (rest after : List ℕ) → IsTokenAt bs k rest → IsTokenAt bs l after
    → (k ≡ l) × (rest ≡ after)
one_token_of bs k l rest after t u = elim (le_or rest after) [
  | inl le ↦ one_token bs k l rest after t u le
  | inr le ↦ let r = one_token bs l k after rest u t le in (sym r.0, sym r.1)
]
  where
    le_or : (a b : List ℕ) → (length a ≤ length b) ⊎ (length b ≤ length a)
    le_or [] b = inl (omega arith)
    le_or (x ∷ a) [] = inr (omega arith)
    le_or (x ∷ a) (y ∷ b) = elim (le_or a b) [ inl p ↦ inl (omega arith) | inr p ↦ inr (omega arith) ]

-- the empty text is no token
pub no_kind : {C : Type 0} (k : Kind) → kind_of [] ≡ Some k → C
unfolding kind_of
no_kind k e = none_is_not k e

-- where a token stands, no gap does
pub token_no_gap : (bs : List ℕ) (k : Kind) (rest cs : List ℕ) → IsTokenAt bs k rest → one_gap bs ≡ Some cs → ⊥
token_no_gap bs k rest cs t e = go t.text t.kind t.parts
  where
    go : (text : List ℕ) → kind_of text ≡ Some k → bs ≡ text ++ rest → ⊥
    go [] s p = no_kind k s
    go (b ∷ text) s p = token_no_gap_byte b text k s (gap_byte b (text ++ rest) cs (rw p at e))

-- a token has bytes
pub token_eats : (bs : List ℕ) (k : Kind) (rest : List ℕ) → IsTokenAt bs k rest → length rest < length bs
token_eats bs k rest t = go t.text t.kind t.parts
  where
    go : (text : List ℕ) → kind_of text ≡ Some k → bs ≡ text ++ rest → length rest < length bs
    go [] s p = no_kind k s
    go (b ∷ text) s p = let q = ap length p in omega (arith, length-append text rest)

-- no token stands at the end
pub no_token_of_none : {C : Type 0} (bs : List ℕ) (k : Kind) (rest : List ℕ) → bs ≡ [] → IsTokenAt bs k rest → C
no_token_of_none bs k rest e t = let lt = token_eats bs k rest t in let z = ap length e in absurd (omega arith)

-- ---- one step over a blank or a comment

module _ (bs after : List ℕ) (step : one_gap bs ≡ Some after) where
  pub lexes_gap : (total : ℕ) (ts : List Token) → LexesFrom total after ts → LexesFrom total bs ts
  lexes_gap total [] g = more step g
  lexes_gap total (t ∷ ts) l = (l.0, l.1, more step l.2, l.3, l.4, l.5)

  pub reached_gap : (x : List ℕ) → Reached after x → Reached bs x
  reached_gap x (here g) = here (more step g)
  reached_gap x (past g t r) = past (more step g) t r

-- ---- one step over a token

module _ (bs : List ℕ) (k : Kind) (after : List ℕ) (token : IsTokenAt bs k after) where
  pub lexes_token : (total : ℕ) (t : Token) (ts : List Token) → t.kind ≡ k → t.place ≡ place_of total bs after
      → LexesFrom total after ts → LexesFrom total bs (t ∷ ts)
  lexes_token total t ts p q l = (bs, after, none, rw p token, q, l)

  pub reached_token : (x : List ℕ) → Reached after x → Reached bs x
  reached_token x r = past none token r
