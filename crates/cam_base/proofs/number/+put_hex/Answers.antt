use Rattle.cam_base.proofs.Common.{[], ap, append_assoc, arith, drop, glyph, hex_digits, refl, sym, ◌%◌, ◌++◌, ◌+◌, ◌-◌, ◌/◌, ◌∙◌, ◌∷◌, ◌≡◌}
use Rattle.cam_base.proofs.Digits.{hex_none, hex_last, hex_more, put_last}
use Rattle.cam_base.proofs.number.+put_hex.Goals as goal

pub returns-then-room-eq0-clause-text : goal.returns-then-room-eq0-clause-text
returns-then-room-eq0-clause-text t c = rw (c.if-room-eq0.true, hex_none c.args.n) refl

pub returns-then-n-lt16-clause-text : goal.returns-then-n-lt16-clause-text
returns-then-n-lt16-clause-text t c =
    let same : c.args.n % 16 ≡ c.args.n = omega arith in
    let end : c.args.end - 1 + 1 ≡ c.args.end = omega arith in
    put_last c.args.buf.now (c.args.end - 1) c.glyph.result (omega arith)
    ∙ ap (λ k. c.glyph.result ∷ drop k c.args.buf.now) end
    ∙ ap (λ ds. ds ++ drop c.args.end c.args.buf.now) (ap (λ g. g ∷ []) (c.glyph.ensures ∙ ap glyph same)
    ∙ sym (hex_last c.args.room c.args.n (omega arith) c.if-n-lt16.true))

pub returns-clause-text : goal.returns-clause-text
returns-clause-text t c =
    let digits = hex_digits (c.args.room - 1) (c.args.n / 16) in
    let behind = drop c.args.end c.args.buf.now in
    let end : c.args.end - 1 + 1 ≡ c.args.end = omega arith in
    c.put_hex.ensures.text
    ∙ ap (λ ds. digits ++ ds) (put_last c.args.buf.now (c.args.end - 1) c.glyph.result (omega arith)
    ∙ ap (λ k. c.glyph.result ∷ drop k c.args.buf.now) end ∙ ap (λ g. g ∷ behind) c.glyph.ensures)
    ∙ sym (append_assoc digits (glyph (c.args.n % 16) ∷ []) behind)
    ∙ ap (λ ds. ds ++ behind) (sym (hex_more c.args.room c.args.n (omega arith) c.if-n-lt16.false))
