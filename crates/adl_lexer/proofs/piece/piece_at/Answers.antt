use Rattle.adl_lexer.proofs.Common.{among, ap, blanks, digits, letters, sym, ◌∙◌}
use Rattle.adl_lexer.proofs.Pieces.{word_piece, number_piece, blank_piece, less_piece, minus_piece, text_piece, sign_piece}
use Rattle.adl_lexer.proofs.piece.piece_at.Goals as goal

pub returns-then-is_letter : goal.returns-then-is_letter
returns-then-is_letter c = word_piece c.args.byte c.args.bytes.now c.args.rest.now c.word.result c.requires
    (ap (among letters) (sym c.class-class.ensures) ∙ sym c.is_letter.ensures ∙ c.if-is_letter.true) c.word.ensures

pub returns-then-is_digit : goal.returns-then-is_digit
returns-then-is_digit c = number_piece c.args.byte c.args.bytes.now c.args.rest.now c.number.result c.requires
    (ap (among digits) (sym c.class-class.ensures) ∙ sym c.is_digit.ensures ∙ c.if-is_digit.true) c.number.ensures

pub returns-then-is_blank : goal.returns-then-is_blank
returns-then-is_blank c = blank_piece c.args.byte c.args.bytes.now c.args.rest.now c.requires
    (ap (among blanks) (sym c.class-class.ensures) ∙ sym c.is_blank.ensures ∙ c.if-is_blank.true)

pub returns-then-class-eq-LESS : goal.returns-then-class-eq-LESS
returns-then-class-eq-LESS c = less_piece c.args.byte c.args.bytes.now c.args.rest.now c.less.result c.requires
    (sym c.class-class.ensures ∙ c.if-class-eq-LESS.true) c.less.ensures

pub returns-then-class-eq-MINUS : goal.returns-then-class-eq-MINUS
returns-then-class-eq-MINUS c = minus_piece c.args.byte c.args.bytes.now c.args.rest.now c.minus.result c.requires
    (sym c.class-class.ensures ∙ c.if-class-eq-MINUS.true) c.minus.ensures

pub returns-then-class-eq-QUOTE : goal.returns-then-class-eq-QUOTE
returns-then-class-eq-QUOTE c = text_piece c.args.byte c.args.bytes.now c.args.rest.now c.text.result c.requires
    (sym c.class-class.ensures ∙ c.if-class-eq-QUOTE.true) c.text.ensures

pub returns-else-class-eq-QUOTE : goal.returns-else-class-eq-QUOTE
returns-else-class-eq-QUOTE c =
    let is = c.class-class.ensures in
    sign_piece c.args.byte c.args.bytes.now c.args.rest.now c.sign.result c.requires (ap (among letters) (sym is)
    ∙ sym c.is_letter.ensures ∙ c.if-is_letter.false)
    (ap (among digits) (sym is) ∙ sym c.is_digit.ensures ∙ c.if-is_digit.false) (ap (among blanks) (sym is)
    ∙ sym c.is_blank.ensures ∙ c.if-is_blank.false)
    (λ e. c.if-class-eq-SLASH.false (is ∙ e)) (λ e. c.if-class-eq-LESS.false (is ∙ e)) (λ e. c.if-class-eq-MINUS.false (is ∙ e))
    (λ e. c.if-class-eq-QUOTE.false (is ∙ e)) c.sign.ensures
