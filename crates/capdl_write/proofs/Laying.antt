-- A text of pieces has the tokens of its pieces.
use Rattle.capdl_write.proofs.Common.{Bool, Fine, Found, List, None, Option, Piece, Some, Token, [], after_run, after_text, all_blank, and_parts, ap, bytes_eq, cases_Bool, codes, cond, digits_fault, digits_kind, digits_word, ends_text, eqb-true}
use Rattle.capdl_write.proofs.Common.{false, goes_on, inl, inr, is_digit, is_end, is_letter, is_star, is_word_byte, laid, list_all, mark_fault, mark_of, not, number_value, option_map, refl, run, runs_on, same_Some, subst, sym, token_at}
use Rattle.capdl_write.proofs.Common.{rules, tokens, true, unless, word_fault, word_of, word_or, ℕ, ◌&&◌, ◌++◌, ◌==◌, ◌||◌, ◌∙◌, ◌∷◌, ◌≡◌}
use Rattle.cam_base.specs.declared.text_fault.TextCode.TheVariants.{CapdlByte}
use Rattle.capdl_text.specs.declared.token.Kind.{Kind}
use Rattle.capdl_text.specs.declared.token.Kind.TheVariants as kinds
use Rattle.capdl_text.specs.declared.token.Mark.{Mark}
use Rattle.capdl_text.specs.Gaps.{is_blank, after_slash, after_dash, one_gap, none}
use Rattle.capdl_text.specs.Pieces.{Taken, word_taken, digits_taken, mark_taken, one_token}
use Rattle.capdl_text.specs.TokenFaults.{fault_at}
use Rattle.capdl_text.specs.TokenKinds.{kind_of}
use Rattle.capdl_text.proofs.Steps.{lexes_gap, no_kind}
use Rattle.cam_base.proofs.Options.{none_is_not}
use Rattle.cam_base.proofs.TerminalCodes.{true_is_not_false}
use Rattle.capdl_text.specs.Lexes.{LexesFrom}

-- ---- runs

run_ends : (a rest : List ℕ) → list_all is_word_byte a ≡ true → goes_on rest ≡ false → run is_word_byte (a ++ rest) ≡ a
run_ends [] [] h g = refl
run_ends [] (c ∷ rest) h g = rw g refl
run_ends (b ∷ a) rest h g = let k = and_parts (is_word_byte b) (list_all is_word_byte a) h in rw (k.0, run_ends a rest k.1 g) refl

after_ends : (a rest : List ℕ) → list_all is_word_byte a ≡ true → goes_on rest ≡ false → after_run is_word_byte (a ++ rest) ≡ rest
after_ends [] [] h g = refl
after_ends [] (c ∷ rest) h g = rw g refl
after_ends (b ∷ a) rest h g = let k = and_parts (is_word_byte b) (list_all is_word_byte a) h in
    rw (k.0, after_ends a rest k.1 g) refl

pub run_all : (a : List ℕ) → list_all is_word_byte a ≡ true → run is_word_byte a ≡ a
run_all [] h = refl
run_all (b ∷ a) h = let k = and_parts (is_word_byte b) (list_all is_word_byte a) h in rw (k.0, run_all a k.1) refl

text_ends : (t rest : List ℕ) → ends_text t ≡ true → after_text (t ++ rest) ≡ Some rest
text_ends [] rest h = true_is_not_false false h refl
text_ends (b ∷ t) rest h = by_test (b == 34) (b == 10) t (λ g. text_ends t rest g) h
  where
    by_test : (q l : Bool) (t : List ℕ) → (ends_text t ≡ true → after_text (t ++ rest) ≡ Some rest)
        → cond q (is_end t) (not l && ends_text t) ≡ true
        → cond q (Some (t ++ rest)) (cond l None (after_text (t ++ rest))) ≡ Some rest
    by_test true l [] ih g = refl
    by_test true l (c ∷ t) ih g = true_is_not_false false g refl
    by_test false true t ih g = true_is_not_false false g refl
    by_test false false t ih g = ih g

-- what a piece gives in front of a rest
abbrev Read : List ℕ → Kind → List ℕ → Type 0
Read bs k rest = (one_token bs ≡ Some (k, rest)) × (fault_at bs ≡ None)

word_reads : (b : ℕ) (t rest : List ℕ) (k : Kind) → is_letter b ≡ true → kind_of (b ∷ t) ≡ Some k → fault_at (b ∷ t) ≡ None
    → (runs_on k ≡ true → goes_on rest ≡ false) → Read (b ∷ t ++ rest) k rest
unfolding kind_of one_token fault_at
word_reads b t rest k l e f ends =
    by_test (list_all is_word_byte t) refl (let p : kind_of (b ∷ t) ≡ cond (list_all is_word_byte t)
    (Some (kinds.Word (word_of (b ∷ t)))) None = rw l refl in sym p ∙ e)
  where
    by_test : (a : Bool) → list_all is_word_byte t ≡ a → cond a (Some (kinds.Word (word_of (b ∷ t)))) None ≡ Some k
        → Read (b ∷ t ++ rest) k rest
    by_test false h q = none_is_not k q
    by_test true h q =
        let same : kinds.Word (word_of (b ∷ t)) ≡ k = same_Some (kinds.Word (word_of (b ∷ t))) k q in
        let g : goes_on rest ≡ false = ends (ap runs_on (sym same)) in
        let all : list_all is_word_byte (b ∷ t) ≡ true = rw (word_or b l, h) refl in
        let front : run is_word_byte (b ∷ t ++ rest) ≡ b ∷ t = run_ends (b ∷ t) rest all g in
        let taken : one_token (b ∷ t ++ rest) ≡ word_taken (b ∷ t ++ rest) = rw l refl in
        let found : fault_at (b ∷ t ++ rest) ≡ word_fault (run is_word_byte (b ∷ t ++ rest)) = rw l refl in
        let alone : fault_at (b ∷ t) ≡ word_fault (run is_word_byte (b ∷ t)) = rw l refl in (
          taken ∙ ap (λ (w : List ℕ). let r : Taken = Some (kinds.Word (word_of w), after_run is_word_byte (b ∷ t ++ rest)) in
              r) front
              ∙ ap (λ (w : List ℕ). let r : Taken = Some (kinds.Word (word_of (b ∷ t)), w) in r) (after_ends (b ∷ t) rest all g)
              ∙ ap (λ (j : Kind). let r : Taken = Some (j, rest) in r) same,
          found ∙ ap word_fault front ∙ ap word_fault (sym (run_all (b ∷ t) all)) ∙ sym alone ∙ f,
        )

digits_runs : (w : List ℕ) (k : Kind) → digits_kind w ≡ Some k → runs_on k ≡ true
digits_runs w k e = search (rules, same_Some, none_is_not)

digits_reads : (b : ℕ) (t rest : List ℕ) (k : Kind) → is_letter b ≡ false → is_digit b ≡ true → kind_of (b ∷ t) ≡ Some k
    → fault_at (b ∷ t) ≡ None → (runs_on k ≡ true → goes_on rest ≡ false) → Read (b ∷ t ++ rest) k rest
unfolding kind_of one_token fault_at
digits_reads b t rest k l d e f ends =
    let kind : digits_kind (b ∷ t) ≡ Some k = (let p : kind_of (b ∷ t) ≡ digits_kind (b ∷ t) = rw (l, d) refl in sym p ∙ e) in
    let g : goes_on rest ≡ false = ends (digits_runs (b ∷ t) k kind) in
    let all : list_all is_word_byte (b ∷ t) ≡ true = digits_word (b ∷ t) (rw kind refl) in
    let front : run is_word_byte (b ∷ t ++ rest) ≡ b ∷ t = run_ends (b ∷ t) rest all g in
    let back : after_run is_word_byte (b ∷ t ++ rest) ≡ rest = after_ends (b ∷ t) rest all g in
    let taken : one_token (b ∷ t ++ rest) ≡ digits_taken (b ∷ t ++ rest) = rw (l, d) refl in
    let found : fault_at (b ∷ t ++ rest) ≡ digits_fault (run is_word_byte (b ∷ t ++ rest)) = rw (l, d) refl in
    let alone : fault_at (b ∷ t) ≡ digits_fault (run is_word_byte (b ∷ t)) = rw (l, d) refl in (
      taken ∙ ap (λ (w : List ℕ). option_map {U = Kind × List ℕ} (λ j. (j, after_run is_word_byte (b ∷ t ++ rest)))
          (digits_kind w)) front ∙ ap (λ (w : List ℕ). option_map {U = Kind × List ℕ} (λ j. (j, w)) (digits_kind (b ∷ t))) back
          ∙ ap (option_map {U = Kind × List ℕ} (λ (j : Kind). (j, rest))) kind,
      found ∙ ap digits_fault front ∙ ap digits_fault (sym (run_all (b ∷ t) all)) ∙ sym alone ∙ f,
    )

quote_reads : (t rest : List ℕ) (k : Kind) → kind_of (34 ∷ t) ≡ Some k → Read (34 ∷ t ++ rest) k rest
unfolding kind_of one_token fault_at
quote_reads t rest k e = search (rules, none_is_not, text_ends, same_Some)

mark_reads : (b : ℕ) (t rest : List ℕ) (k : Kind) → is_letter b ≡ false → is_digit b ≡ false → (b == 34) ≡ false
    → kind_of (b ∷ t) ≡ Some k → fault_at (b ∷ t) ≡ None → Read (b ∷ t ++ rest) k rest
unfolding kind_of one_token fault_at
mark_reads b [] rest k l d q e f = search (rules, none_is_not, same_Some)
mark_reads b (c ∷ t) rest k l d q e f = none_is_not k (let p : kind_of (b ∷ c ∷ t) ≡ None = rw (l, d, q) refl in sym p ∙ e)

ends_of : (k : Kind) (rest : List ℕ) → (not (runs_on k) || not (goes_on rest)) ≡ true → runs_on k ≡ true → goes_on rest ≡ false
ends_of k rest h r = search (rules, true_is_not_false)

piece_reads : (text rest : List ℕ) (k : Kind) → kind_of text ≡ Some k → fault_at text ≡ None
    → (not (runs_on k) || not (goes_on rest)) ≡ true → Read (text ++ rest) k rest
piece_reads [] rest k e f h = no_kind k e
piece_reads (b ∷ t) rest k e f h = elim (cases_Bool (is_letter b)) [
  | inl l ↦ word_reads b t rest k l e f (ends_of k rest h)
  | inr l ↦ elim (cases_Bool (is_digit b)) [
    | inl d ↦ digits_reads b t rest k l d e f (ends_of k rest h)
    | inr d ↦ elim (cases_Bool (b == 34)) [
      | inl q ↦ let s : b ≡ 34 = eqb-true b 34 q in
          subst (λ (z : ℕ). Read (z ∷ t ++ rest) k rest) (sym s)
          (quote_reads t rest k (ap (λ (z : ℕ). kind_of (z ∷ t)) (sym s) ∙ e))
      | inr q ↦ mark_reads b t rest k l d q e f
    ]
  ]
]

-- ---- the tokens

blank_gap : (b : ℕ) (bs : List ℕ) → is_blank b ≡ true → one_gap (b ∷ bs) ≡ Some bs
unfolding one_gap
blank_gap b bs h = rw h refl

-- blanks in front change no tokens
blanks_before : (total : ℕ) (bs rest : List ℕ) (ts : List Token) → all_blank bs ≡ true → LexesFrom total rest ts
    → LexesFrom total (bs ++ rest) ts
blanks_before total [] rest ts h l = l
blanks_before total (b ∷ bs) rest ts h l =
    let k = and_parts (is_blank b) (all_blank bs) h in
    lexes_gap (b ∷ (bs ++ rest)) (bs ++ rest) (blank_gap b (bs ++ rest) k.0) total ts (blanks_before total bs rest ts k.1 l)

pub laid_lexes : (total : ℕ) (ps : List Piece) → Fine ps → LexesFrom total (laid ps) (tokens total ps)
laid_lexes total [] f = none
laid_lexes total (p ∷ ps) f =
    let rest = p.blanks ++ laid ps in
    let r = piece_reads p.text rest p.kind f.0 f.1 f.3 in (
      laid (p ∷ ps),
      rest,
      none,
      token_at (laid (p ∷ ps)) p.kind rest r.0 r.1,
      refl,
      blanks_before total p.blanks (laid ps) (tokens total ps) f.2 (laid_lexes total ps f.4),
    )
