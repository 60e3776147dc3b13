use Rattle.adl_lexer.proofs.Common.{IsPiece, LexesFrom, List, Piece, Token, [], after_run, ap, append-nil, append_assoc, arith, blanks, here, length, none, place_of, refl, rules, subst, sym, ℕ, ◌++◌, ◌∙◌, ◌∷◌, ◌≡◌}
use Rattle.adl_lexer.proofs.Gaps.{gap_eats}
use Rattle.adl_lexer.proofs.Runs.{after_run_le}
use Rattle.adl_lexer.proofs.Steps.{blanks_gap, gap_and_blanks, lexes_gap, lexes_token, reached_gap, reached_token, token_at, token_eats}
use Rattle.adl_lexer.proofs.lexer.lex_within.Goals as goal

pub scan-init : goal.scan-init
scan-init c =
    let bytes = c.args.bytes.now in
    let empty : c.from_vec-tokens.result ≡ [] = search rules in
    record {
      told = λ ts l. rw empty (lexes_gap bytes (after_run blanks bytes) (blanks_gap bytes) c.args.file (length bytes) ts
          (rw c.blanks_end-rest.ensures at l));
      reached = λ x r. reached_gap bytes (after_run blanks bytes) (blanks_gap bytes) x (rw c.blanks_end-rest.ensures at r);
      short = rw c.blanks_end-rest.ensures (after_run_le blanks bytes);
    }

pub scan-smaller-in-Gap : goal.scan-smaller-in-Gap
scan-smaller-in-Gap c =
    let after = c.in-Gap.after.now in
    rw c.blanks_end-rest-in-Gap.ensures
    (omega (
      arith,
      gap_eats c.scan.rest.now after (subst (λ (p : Piece). IsPiece c.scan.rest.now p) c.in-Gap.is
          c.in-Some.ensures),
      after_run_le blanks after,
    ))

pub scan-preserved-in-Gap : goal.scan-preserved-in-Gap
scan-preserved-in-Gap c =
    let rest = c.scan.rest.now in
    let after = c.in-Gap.after.now in
    let last = after_run blanks after in
    let step = subst (λ (p : Piece). IsPiece rest p) c.in-Gap.is c.in-Some.ensures in
    let gap = gap_and_blanks rest after step in
    rw c.blanks_end-rest-in-Gap.ensures (record {
      told = λ ts l. c.scan.invariant.told ts (lexes_gap rest last gap c.args.file (length c.args.bytes.now) ts l);
      reached = λ x r. c.scan.invariant.reached x (reached_gap rest last gap x r);
      short = omega (arith, c.scan.invariant.short, gap_eats rest after step, after_run_le blanks after);
    })

pub overflow_sub-end : goal.overflow_sub-end
overflow_sub-end c =
    let rest = c.scan.rest.now in
    let step = subst (λ (p : Piece). IsPiece rest p) c.in-Token.is c.in-Some.ensures in
    omega (
      arith,
      token_eats rest c.in-Token.kind c.in-Token.after.now (token_at rest c.in-Token.kind c.in-Token.after.now step.0
          step.1),
      c.scan.invariant.short,
    )

pub scan-smaller : goal.scan-smaller
scan-smaller c =
    let rest = c.scan.rest.now in
    let after = c.in-Token.after.now in
    let step = subst (λ (p : Piece). IsPiece rest p) c.in-Token.is c.in-Some.ensures in
    rw c.blanks_end-rest-in-Token.ensures
    (omega (
      arith,
      token_eats rest c.in-Token.kind after (token_at rest c.in-Token.kind after step.0 step.1),
      after_run_le blanks after,
    ))

pub scan-preserved : goal.scan-preserved
scan-preserved c =
    let bytes = c.args.bytes.now in
    let rest = c.scan.rest.now in
    let after = c.in-Token.after.now in
    let last = after_run blanks after in
    let k = c.in-Token.kind in
    let step = subst (λ (p : Piece). IsPiece rest p) c.in-Token.is c.in-Some.ensures in
    let token = token_at rest k after step.0 step.1 in
    let t : Token = record { kind = k; place = place_of c.args.file (length bytes) rest after } in
    rw c.blanks_end-rest-in-Token.ensures (record {
      told = λ ts l. subst (λ (v : List Token). LexesFrom c.args.file (length bytes) bytes v)
          (sym (append_assoc c.scan.tokens (t ∷ []) ts) ∙ ap (λ (v : List Token). v ++ ts) (sym c.in_ok-push-in-Token.ensures.ok))
          (c.scan.invariant.told (t ∷ ts) (lexes_token rest k after token c.args.file (length bytes) t ts refl refl
          (lexes_gap after last (blanks_gap after) c.args.file (length bytes) ts l)));
      reached =
          λ x r. c.scan.invariant.reached x (reached_token rest k after token x (reached_gap after last (blanks_gap after) x r));
      short = omega (arith, token_eats rest k after token, c.scan.invariant.short, after_run_le blanks after);
    })

pub returns-in-Bad : goal.returns-in-Bad
returns-in-Bad c = record {
  rest = c.scan.rest.now;
  text = c.in-Bad.text.now;
  reached = c.scan.invariant.reached c.scan.rest.now (here none);
  stands = subst (λ (p : Piece). IsPiece c.scan.rest.now p) c.in-Bad.is c.in-Some.ensures;
  place = refl;
  name = c.in_ok-name-in-Bad.ensures;
}

pub returns : goal.returns
returns c =
    let all : LexesFrom c.args.file (length c.args.bytes.now) c.args.bytes.now (c.scan.tokens ++ []) =
    c.scan.invariant.told [] (subst (λ (w : List ℕ). LexesFrom c.args.file (length c.args.bytes.now) w [])
    (sym c.in_default.ensures) none) in
    subst (λ (v : List Token). LexesFrom c.args.file (length c.args.bytes.now) c.args.bytes.now v) (append-nil c.scan.tokens) all
