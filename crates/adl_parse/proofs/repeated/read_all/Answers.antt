use Rattle.adl_parse.proofs.Common.{Many, Ok, Reads, [], and_more, ap, behind_none, err_from_is_err_and, fails, first, many_more, many_none, opens, reads, subst, sym, token_code, ◌∙◌}
use Rattle.adl_parse.proofs.repeated.read_all.Goals as goal

pub returns-then-not-starts : goal.returns-then-not-starts
returns-then-not-starts g c =
    let f = g.R.Repeated.form in
    many_none token_code (first opens f) (reads f) c.args.at.now (sym c.starts.ensures ∙ c.if-not-starts.true)
    ∙ ap (λ z. Ok (z, c.args.at.now)) (sym c.new.ensures)

pub returns-in_err-first : goal.returns-in_err-first
returns-in_err-first g c =
    let f = g.R.Repeated.form in
    let total = reads (Many f) c.args.at.now in
    let p = err_from_is_err_and c.from_residual.result c.from_residual.ensures.1 in
    rw (p.1, p.2) (fails token_code (first opens f) (reads f) g.R.Repeated.eats c.in_err-first.field-0.0 [] c.args.at.now total
    (sym c.starts.ensures ∙ c.if-not-starts.false) c.in_err-first.ensures (behind_none total))

pub returns : goal.returns
returns g c =
    let f = g.R.Repeated.form in
    subst (λ z. Reads c.read_from.result c.read_from.new.at z) (sym (many_more token_code (first opens f) (reads f)
    g.R.Repeated.eats c.args.at.now (sym c.starts.ensures ∙ c.if-not-starts.false) ∙ ap (and_more (reads (Many f)))
    c.in_ok-first.ensures)) c.read_from.ensures
