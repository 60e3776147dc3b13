-- One step of the lexer, and what it leaves of the tokens and the faults.
use Rattle.adl_lexer.proofs.Common.{IsGap, IsTokenAt, Kind, LexesFrom, List, None, Ok, Reached, Some, Spells, Token, [], after_run, among, ap, append-nil, append_assoc, arith, blanks, can_be_empty, cases_Bool, class_of, fault_at, flat, here, if_true}
use Rattle.adl_lexer.proofs.Common.{inl, inr, left, length, length-append, longer_front, more, none, ok_is, past, place_of, reads, refl, rules, spelled_starts, subst, sym, token_form, true, true_is_not_false, ℕ, ◌++◌, ◌<◌, ◌∙◌, ◌∷◌, ◌≡◌, ◌≤◌, ◌⊎◌}
use Rattle.adl_lexer.specs.Gaps.{one_gap}
use Rattle.adl_lexer.proofs.Exactness.{token_exact, token_full, token_first, token_first_is}
use Rattle.adl_lexer.proofs.Gaps.{gap_class}

-- ---- tokens are read exactly

no_longer : (a b : List ℕ) → length (a ++ b) ≤ length b → a ≡ []
no_longer [] b le = refl
no_longer (x ∷ a) b le = absurd (omega (arith, length-append a b))

-- what is read is a token, and the longest one
pub token_at : (bs : List ℕ) (k : Kind) (rest : List ℕ) → reads token_form bs ≡ Ok (k, rest) → fault_at bs ≡ None
    → IsTokenAt bs k rest
token_at bs k rest e clean =
    let s = token_exact.sound bs (k, rest) e in
    record {
      text = s.0;
      parts = s.1;
      kind = s.2;
      longest = λ longer after l p q.
          let all : bs ≡ (s.0 ++ longer) ++ after = s.1 ∙ ap (λ (w : List ℕ). s.0 ++ w) p ∙ sym (append_assoc s.0 longer after) in
          let n = token_exact.passes (s.0 ++ longer) after (token_exact.begun l (s.0 ++ longer) q) in
          let n' : left (reads token_form bs) ≤ length after = search (rules) in
          let n'' : length rest ≤ length after = (rw e at n') in
          no_longer longer after (rw p at n'');
      clean = clean;
    }

-- two tokens at one place are one
one_token : (bs : List ℕ) (k l : Kind) (rest after : List ℕ) → IsTokenAt bs k rest → IsTokenAt bs l after
    → length rest ≤ length after → (k ≡ l) × (rest ≡ after)
one_token bs k l rest after t u le =
    let r = longer_front t.text u.text rest after (sym t.parts ∙ u.parts) le in
    let same : r.0 ≡ [] = u.longest r.0 rest k r.2 (subst (λ (w : List ℕ). Spells class_of flat token_form k w) r.1 t.kind) in
    let texts : t.text ≡ u.text = r.1 ∙ ap (λ (w : List ℕ). u.text ++ w) same ∙ append-nil u.text in
    let p = token_exact.complete k t.text [] t.kind refl in
    let q = token_exact.complete l u.text [] u.kind refl in
    let e : (k, []) ≡ (l, []) = ok_is (k, []) (l, []) (sym p ∙ ap (λ (w : List ℕ). reads token_form (w ++ [])) texts ∙ q) in
    (ap (λ (w : Kind × List ℕ). w.0) e, sym (r.2 ∙ ap (λ (w : List ℕ). w ++ rest) same))

pub one_token_of : (bs : List ℕ) (k l : Kind) (rest after : List ℕ) → IsTokenAt bs k rest → IsTokenAt bs l after
    → (k ≡ l) × (rest ≡ after)
one_token_of bs k l rest after t u = elim (le_or rest after) [
  | inl le ↦ one_token bs k l rest after t u le
  | inr le ↦ let r = one_token bs l k after rest u t le in (sym r.0, sym r.1)
]
  where
    le_or : (a b : List ℕ) → (length a ≤ length b) ⊎ (length b ≤ length a)
    le_or [] b = inl (omega arith)
    le_or (x ∷ a) [] = inr (omega arith)
    le_or (x ∷ a) (y ∷ b) = elim (le_or a b) [ inl p ↦ inl (omega arith) | inr p ↦ inr (omega arith) ]

-- the first byte of a token
token_byte : (bs : List ℕ) (k : Kind) (rest : List ℕ) → IsTokenAt bs k rest → (b : ℕ) × (cs : List ℕ) × (bs ≡ b ∷ cs)
    × (among token_first (class_of b) ≡ true)
token_byte bs k rest t = go t.text t.kind t.parts
  where
    go : (text : List ℕ) → Spells class_of flat token_form k text → bs ≡ text ++ rest → (b : ℕ) × (cs : List ℕ) × (bs ≡ b ∷ cs)
        × (among token_first (class_of b) ≡ true)
    go [] s p = true_is_not_false (can_be_empty token_form) (token_exact.null k s) token_full
    go (b ∷ text) s p = (
      b,
      text ++ rest,
      p,
      subst (λ (cs : List ℕ). among cs (class_of b) ≡ true) token_first_is
          (spelled_starts token_exact k b text s),
    )

-- where a token stands, no gap does
pub token_no_gap : (bs : List ℕ) (k : Kind) (rest cs : List ℕ) → IsTokenAt bs k rest → one_gap bs ≡ Some cs → ⊥
token_no_gap bs k rest cs t e =
    let b = token_byte bs k rest t in
    true_is_not_false (among token_first (class_of b.0)) b.3 (gap_class b.0 b.1 cs (rw b.2 at e))

-- a token has bytes
pub token_eats : (bs : List ℕ) (k : Kind) (rest : List ℕ) → IsTokenAt bs k rest → length rest < length bs
token_eats bs k rest t = go t.text t.kind t.parts
  where
    go : (text : List ℕ) → Spells class_of flat token_form k text → bs ≡ text ++ rest → length rest < length bs
    go [] s p = true_is_not_false (can_be_empty token_form) (token_exact.null k s) token_full
    go (b ∷ text) s p = let q = ap length p in omega (arith, length-append text rest)

-- no token stands at the end
pub no_token_of_none : {C : Type 0} (bs : List ℕ) (k : Kind) (rest : List ℕ) → bs ≡ [] → IsTokenAt bs k rest → C
no_token_of_none bs k rest e t = let lt = token_eats bs k rest t in let z = ap length e in absurd (omega arith)

-- ---- one step over blanks and comments

gap_on : (bs cs rest : List ℕ) → IsGap bs cs → IsGap cs rest → IsGap bs rest
gap_on bs cs rest none h = h
gap_on bs cs rest (more {cs = ds} e g) h = more e (gap_on ds cs rest g h)

module _ (bs after : List ℕ) (step : IsGap bs after) where
  pub lexes_gap : (file total : ℕ) (ts : List Token) → LexesFrom file total after ts → LexesFrom file total bs ts
  lexes_gap file total [] g = gap_on bs after [] step g
  lexes_gap file total (t ∷ ts) l = (l.0, l.1, gap_on bs after l.0 step l.2, l.3, l.4, l.5)

  pub reached_gap : (x : List ℕ) → Reached after x → Reached bs x
  reached_gap x (here g) = here (gap_on bs after x step g)
  reached_gap x (past {at = at} g t r) = past (gap_on bs after at step g) t r

-- blanks are a gap
pub blanks_gap : (bs : List ℕ) → IsGap bs (after_run blanks bs)
unfolding one_gap
blanks_gap [] = none
blanks_gap (b ∷ bs) = elim (cases_Bool (among blanks (class_of b))) [
  | inl h ↦ rw h (more (if_true (among blanks (class_of b)) (Some bs) _ h) (blanks_gap bs))
  | inr h ↦ rw h none
]

-- a comment and the blanks behind it are a gap
pub gap_and_blanks : (bs after : List ℕ) → one_gap bs ≡ Some after → IsGap bs (after_run blanks after)
gap_and_blanks bs after e = more e (blanks_gap after)

-- ---- one step over a token

module _ (bs : List ℕ) (k : Kind) (after : List ℕ) (token : IsTokenAt bs k after) where
  pub lexes_token : (file total : ℕ) (t : Token) (ts : List Token) → t.kind ≡ k → t.place ≡ place_of file total bs after
      → LexesFrom file total after ts → LexesFrom file total bs (t ∷ ts)
  lexes_token file total t ts p q l = (bs, after, none, rw p token, q, l)

  pub reached_token : (x : List ℕ) → Reached after x → Reached bs x
  reached_token x r = past none token r
