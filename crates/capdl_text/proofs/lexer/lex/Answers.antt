use Rattle.capdl_text.proofs.Common.{IsPiece, Lexeme, LexesFrom, List, Sort, Token, [], ap, append-nil, arith, here, kind_with, length, none, place_of, refl, subst, sym, token_of, tokens_of, value_at, ℕ, ◌++◌, ◌∙◌, ◌∷◌}
use Rattle.capdl_text.specs.declared.piece.Piece.{Piece}
use Rattle.capdl_text.proofs.Gaps.{gap_eats}
use Rattle.capdl_text.proofs.Lexemes.{kind_kept, tail_past_gap, tail_past_token, tokens_more}
use Rattle.capdl_text.proofs.Tokens.{token_at}
use Rattle.capdl_text.proofs.Steps.{token_eats, lexes_gap, reached_gap, lexes_token, reached_token}
use Rattle.capdl_text.proofs.lexer.lex.Goals as goal

pub scan-smaller-in-Gap : goal.scan-smaller-in-Gap
scan-smaller-in-Gap c = gap_eats c.scan.rest.now c.in-Gap.after.now (subst (λ (p : Piece). IsPiece c.scan.rest.now p) c.in-Gap.is
    c.in-Some.ensures)

pub scan-preserved-in-Gap : goal.scan-preserved-in-Gap
scan-preserved-in-Gap c =
    let rest = c.scan.rest.now in
    let after = c.in-Gap.after.now in
    let step = subst (λ (p : Piece). IsPiece rest p) c.in-Gap.is c.in-Some.ensures in
    record {
      told = λ ts l. c.scan.invariant.told ts (lexes_gap rest after step (length c.args.bytes.now) ts l);
      reached = λ x r. c.scan.invariant.reached x (reached_gap rest after step x r);
      tail = tail_past_gap c.args.bytes.now rest after c.scan.invariant.tail step;
      short = omega (arith, gap_eats rest after step);
      few = c.scan.invariant.few;
      table = c.scan.invariant.table;
    }

pub overflow_sub-end : goal.overflow_sub-end
overflow_sub-end c =
    let rest = c.scan.rest.now in
    let step = subst (λ (p : Piece). IsPiece rest p) c.in-Token.is c.in-Some.ensures in
    omega (
      arith,
      token_eats rest c.in-Token.kind c.in-Token.after.now (token_at rest c.in-Token.kind c.in-Token.after.now step.0
          step.1),
      c.scan.invariant.short,
    )

pub scan-smaller : goal.scan-smaller
scan-smaller c =
    let rest = c.scan.rest.now in
    let step = subst (λ (p : Piece). IsPiece rest p) c.in-Token.is c.in-Some.ensures in
    token_eats rest c.in-Token.kind c.in-Token.after.now (token_at rest c.in-Token.kind c.in-Token.after.now step.0 step.1)

pub scan-preserved : goal.scan-preserved
scan-preserved c =
    let bytes = c.args.bytes.now in
    let rest = c.scan.rest.now in
    let after = c.in-Token.after.now in
    let k = c.in-Token.kind in
    let step = subst (λ (p : Piece). IsPiece rest p) c.in-Token.is c.in-Some.ensures in
    let token = token_at rest k after step.0 step.1 in
    let place = place_of (length bytes) rest after in
    let kept = ap (λ (s : Sort). kind_with s (value_at bytes place)) c.sort_of-sort.ensures ∙ kind_kept bytes rest after k token
    c.scan.invariant.tail in
    let l : Lexeme = record { sort = c.sort_of-sort.result; place = place } in
    record {
      told = λ ts m. subst (λ (v : List Token). LexesFrom (length bytes) bytes v)
          (sym (ap (λ (v : List Lexeme). tokens_of bytes v ++ ts) c.in_ok-push-in-Token.ensures.ok
          ∙ tokens_more bytes c.scan.lexemes l ts))
          (c.scan.invariant.told (token_of bytes l ∷ ts) (lexes_token rest k after token (length bytes) (token_of bytes l) ts
          kept refl m));
      reached = λ x r. c.scan.invariant.reached x (reached_token rest k after token x r);
      tail = tail_past_token bytes rest after k token c.scan.invariant.tail;
      short = omega (arith, token_eats rest k after token, c.scan.invariant.short);
      few = c.scan.invariant.few;
      table = c.scan.invariant.table;
    }

pub returns-in-Bad : goal.returns-in-Bad
returns-in-Bad c = record {
  rest = c.scan.rest.now;
  text = c.in-Bad.text.now;
  reached = c.scan.invariant.reached c.scan.rest.now (here none);
  stands = subst (λ (p : Piece). IsPiece c.scan.rest.now p) c.in-Bad.is c.in-Some.ensures;
  first = refl;
  end = refl;
  name = c.empty.ensures;
}

pub returns : goal.returns
returns c =
    let bytes = c.args.bytes.now in
    let tokens = tokens_of bytes c.scan.lexemes in
    let all : LexesFrom (length bytes) bytes (tokens ++ []) =
    c.scan.invariant.told [] (subst (λ (w : List ℕ). LexesFrom (length bytes) w []) (sym c.in_default.ensures) none) in
    subst (λ (v : List Token). LexesFrom (length bytes) bytes v) (append-nil tokens) all
