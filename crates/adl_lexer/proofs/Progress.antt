-- At each byte stands a blank, a comment, a token or a fault.
use Rattle.adl_lexer.proofs.Common.{Bool, Code, IsTokenAt, Kind, List, None, Ok, Option, Some, [], after_angle, after_byte, after_run, after_text, among, ap, arrow_line, blanks, cases_Bool, class_of, digits, eqb-true}
use Rattle.adl_lexer.proofs.Common.{false, greater, if_false, if_true, inl, inr, less, less_fault, less_line, letters, line_bytes, mark_bytes, minus, minus_fault, number_fault_by, number_value, or_else, quote, reads, refl, run}
use Rattle.adl_lexer.proofs.Common.{rules, sign_fault, slash, sym, text_fault, text_line, token_form, true, unless, word_bytes, ℕ, ◌==◌, ◌∙◌, ◌∷◌, ◌≡◌, ◌⊎◌}
use Rattle.cam_base.specs.declared.code.Code.TheVariants as code
use Rattle.cam_base.specs.declared.token.Kind.TheVariants as kinds
use Rattle.cam_base.specs.declared.token.Mark.TheVariants as marks
use Rattle.adl_lexer.specs.Gaps.{one_gap}
use Rattle.adl_lexer.specs.LexFaults.{fault_at}
use Rattle.adl_lexer.specs.TokenKinds.{mark_line}
use Rattle.adl_lexer.proofs.Classes.{one_of}
use Rattle.adl_lexer.proofs.Readings.{word_read, number_read, text_read, back_read, angle_read, arrow_read}
use Rattle.adl_lexer.proofs.Steps.{token_at}
use Rattle.adl_lexer.proofs.TokenTexts.{some_is_not, word_start, number_start}

abbrev HasToken : List ℕ → Type 0
HasToken bs = (k : Kind) × (rest : List ℕ) × IsTokenAt bs k rest

read_token : (bs : List ℕ) (k : Kind) (rest : List ℕ) → reads token_form bs ≡ Ok (k, rest) → fault_at bs ≡ None → HasToken bs
read_token bs k rest e clean = (k, rest, token_at bs k rest e clean)

-- where nothing is at fault there is a rest
has_rest : (o : Option (List ℕ)) (c : Code) (text : List ℕ) → unless o c text ≡ None → (rest : List ℕ) × (o ≡ Some rest)
has_rest None c text e = some_is_not (c, text) e
has_rest (Some rest) c text e = (rest, refl)

module _ (b : ℕ) (bs : List ℕ) (clean : fault_at (b ∷ bs) ≡ None) where
  word_progress : among letters (class_of b) ≡ true → HasToken (b ∷ bs)
  word_progress h = read_token (b ∷ bs) _ _ ((word_start (b ∷ bs) h).0 ∙ word_read (b ∷ bs) h) clean

  number_progress : among digits (class_of b) ≡ true → HasToken (b ∷ bs)
  number_progress h = go (number_value (run word_bytes (b ∷ bs))) refl
    where
      go : (o : Option ℕ) → number_value (run word_bytes (b ∷ bs)) ≡ o → HasToken (b ∷ bs)
      go None e = some_is_not (code.Number, run word_bytes (b ∷ bs))
          (sym (ap (λ o. number_fault_by o (run word_bytes (b ∷ bs)) (after_run word_bytes (b ∷ bs))) e)
          ∙ sym (number_start (b ∷ bs) h).1 ∙ clean)
      go (Some n) e = read_token (b ∷ bs) (kinds.Number n) (after_run word_bytes (b ∷ bs)) ((number_start (b ∷ bs) h).0
          ∙ number_read (b ∷ bs) n h e) clean

  text_progress : class_of b ≡ quote → HasToken (b ∷ bs)
  unfolding fault_at
  text_progress c =
      let fault : fault_at (b ∷ bs) ≡ text_fault (b ∷ bs) = rw c refl in
      let start : reads token_form (b ∷ bs) ≡ reads text_line (b ∷ bs) = rw c refl in
      let r = has_rest (after_text bs) code.Unclosed (run line_bytes (b ∷ bs)) (sym fault ∙ clean) in
      read_token (b ∷ bs) kinds.Text r.0 (start ∙ text_read b bs r.0 c r.1) clean

  minus_progress : class_of b ≡ minus → HasToken (b ∷ bs)
  unfolding fault_at
  minus_progress c =
      let fault : fault_at (b ∷ bs) ≡ minus_fault (b ∷ bs) = rw c refl in
      let start : reads token_form (b ∷ bs) ≡ reads arrow_line (b ∷ bs) = rw c refl in
      let r = has_rest (after_byte greater bs) code.LeftOut (b ∷ []) (sym fault ∙ clean) in
      read_token (b ∷ bs) (kinds.Mark marks.Arrow) r.0 (start ∙ arrow_read b bs r.0 c r.1) clean

  less_progress : class_of b ≡ less → HasToken (b ∷ bs)
  unfolding fault_at
  less_progress c =
      let fault : fault_at (b ∷ bs) ≡ less_fault (b ∷ bs) = rw c refl in
      let start : reads token_form (b ∷ bs) ≡ reads less_line (b ∷ bs) = rw c refl in
      go (after_byte minus bs) refl start (has_rest (or_else (after_byte minus bs) (after_angle bs)) code.Byte (b ∷ [])
      (sym fault ∙ clean))
    where
      go : (o : Option (List ℕ)) → after_byte minus bs ≡ o → reads token_form (b ∷ bs) ≡ reads less_line (b ∷ bs)
          → (rest : List ℕ) × (or_else (after_byte minus bs) (after_angle bs) ≡ Some rest) → HasToken (b ∷ bs)
      go (Some x) e start r = read_token (b ∷ bs) (kinds.Mark marks.Back) x (start ∙ back_read b bs x c e) clean
      go None e start r =
          read_token (b ∷ bs) kinds.Angle r.0 (start ∙ angle_read b bs r.0 c e (sym (ap (λ o. or_else o (after_angle bs)) e)
          ∙ r.1)) clean

  slash_progress : class_of b ≡ slash → one_gap (b ∷ bs) ≡ None → HasToken (b ∷ bs)
  unfolding fault_at one_gap
  slash_progress c gap = search (rules, has_rest, some_is_not)

first_or_later : (c : ℕ) (cs : List ℕ) (x : ℕ) → among (c ∷ cs) x ≡ true → (x ≡ c) ⊎ (among cs x ≡ true)
first_or_later c cs x h = search (rules, cases_Bool, eqb-true, if_false)

mark_read : (b : ℕ) (bs : List ℕ) → among mark_bytes (class_of b) ≡ true → (k : Kind) × (reads mark_line (b ∷ bs) ≡ Ok (k, bs))
unfolding mark_line
mark_read b bs h =
    elim (first_or_later 13 (14 ∷ 15 ∷ 16 ∷ 17 ∷ 18 ∷ 19 ∷ 20 ∷ 21 ∷ 22 ∷ 23 ∷ []) (class_of b) h) [
      | inl c ↦ (kinds.Mark marks.Dot, rw c refl)
      | inr h ↦
          elim (first_or_later 14 (15 ∷ 16 ∷ 17 ∷ 18 ∷ 19 ∷ 20 ∷ 21 ∷ 22 ∷ 23 ∷ []) (class_of b) h) [
            | inl c ↦ (kinds.Mark marks.BraceL, rw c refl)
            | inr h ↦
                elim (first_or_later 15 (16 ∷ 17 ∷ 18 ∷ 19 ∷ 20 ∷ 21 ∷ 22 ∷ 23 ∷ []) (class_of b) h) [
                  | inl c ↦ (kinds.Mark marks.BraceR, rw c refl)
                  | inr h ↦
                      elim (first_or_later 16 (17 ∷ 18 ∷ 19 ∷ 20 ∷ 21 ∷ 22 ∷ 23 ∷ []) (class_of b) h) [
                        | inl c ↦ (kinds.Mark marks.ParenL, rw c refl)
                        | inr h ↦
                            elim (first_or_later 17 (18 ∷ 19 ∷ 20 ∷ 21 ∷ 22 ∷ 23 ∷ []) (class_of b) h) [
                              | inl c ↦ (kinds.Mark marks.ParenR, rw c refl)
                              | inr h ↦
                                  elim (first_or_later 18 (19 ∷ 20 ∷ 21 ∷ 22 ∷ 23 ∷ []) (class_of b) h) [
                                    | inl c ↦ (kinds.Mark marks.SquareL, rw c refl)
                                    | inr h ↦
                                        elim (first_or_later 19 (20 ∷ 21 ∷ 22 ∷ 23 ∷ []) (class_of b) h) [
                                          | inl c ↦ (kinds.Mark marks.SquareR, rw c refl)
                                          | inr h ↦
                                              elim (first_or_later 20 (21 ∷ 22 ∷ 23 ∷ []) (class_of b) h) [
                                                | inl c ↦ (kinds.Mark marks.Semi, rw c refl)
                                                | inr h ↦
                                                    elim (first_or_later 21 (22 ∷ 23 ∷ []) (class_of b) h) [
                                                      | inl c ↦ (kinds.Mark marks.Comma, rw c refl)
                                                      | inr h ↦
                                                          elim (first_or_later 22 (23 ∷ []) (class_of b) h) [
                                                            | inl c ↦ (kinds.Mark marks.Equals, rw c refl)
                                                            | inr h ↦
                                                                let c = one_of (class_of b) 23 h in
                                                                (kinds.Mark marks.Colon, rw c refl)
                                                          ]
                                                    ]
                                              ]
                                        ]
                                  ]
                            ]
                      ]
                ]
          ]
    ]

faultless_sign : (b : ℕ) (bs : List ℕ) → sign_fault (b ∷ bs) ≡ None → among mark_bytes (class_of b) ≡ true
faultless_sign b bs e = search (rules, some_is_not)

module _ (b : ℕ) (bs : List ℕ) (gap : one_gap (b ∷ bs) ≡ None) (clean : fault_at (b ∷ bs) ≡ None) where
  sign_progress : among letters (class_of b) ≡ false → among digits (class_of b) ≡ false → among blanks (class_of b) ≡ false
      → (class_of b == slash) ≡ false → (class_of b == less) ≡ false → (class_of b == minus) ≡ false
      → (class_of b == quote) ≡ false → HasToken (b ∷ bs)
  unfolding fault_at
  sign_progress h1 h2 h3 h4 h5 h6 h7 =
      let fault : fault_at (b ∷ bs) ≡ sign_fault (b ∷ bs) = rw (h1, h2, h3, h4, h5, h6, h7) refl in
      let start : reads token_form (b ∷ bs) ≡ reads mark_line (b ∷ bs) = rw (h1, h2, h7, h5, h6) refl in
      let r = mark_read b bs (faultless_sign b bs (sym fault ∙ clean)) in
      read_token (b ∷ bs) r.0 bs (start ∙ r.1) clean

  blank_progress : among blanks (class_of b) ≡ true → HasToken (b ∷ bs)
  unfolding one_gap
  blank_progress h = search (rules, some_is_not, if_true)

  -- where no blank and no comment begins and no fault stands, a token does
  pub progress : HasToken (b ∷ bs)
  progress =
      elim (cases_Bool (among letters (class_of b))) [
        | inl h ↦ word_progress b bs clean h
        | inr h1 ↦
            elim (cases_Bool (among digits (class_of b))) [
              | inl h ↦ number_progress b bs clean h
              | inr h2 ↦
                  elim (cases_Bool (among blanks (class_of b))) [
                    | inl h ↦ blank_progress h
                    | inr h3 ↦
                        elim (cases_Bool (class_of b == slash)) [
                          | inl h ↦ slash_progress b bs clean (eqb-true (class_of b) slash h) gap
                          | inr h4 ↦
                              search (rules, cases_Bool, less_progress, eqb-true, minus_progress, text_progress, sign_progress)
                        ]
                  ]
            ]
      ]
