use Rattle.adl_parse.proofs.Common.{Many, err_from_is_err_and, fails, first, goes_on, is_done, opens, reads, sym, token_code, with_front, ◌∙◌}
use Rattle.adl_parse.proofs.repeated.read_behind.Goals as goal

pub returns-in_err-item : goal.returns-in_err-item
returns-in_err-item g c =
    let f = g.R.Repeated.form in
    let p = err_from_is_err_and c.from_residual.result c.from_residual.ensures.1 in
    rw (p.1, p.2) (fails token_code (first opens f) (reads f) g.R.Repeated.eats c.in_err-item.field-0.0 c.more.items c.more.at
    (with_front c.args.before (reads (Many f) c.args.at.now)) (sym c.starts.ensures ∙ c.more-test.true) c.in_err-item.ensures
    c.more.invariant)

pub more-smaller : goal.more-smaller
more-smaller g c = g.R.Repeated.eats c.more.at (c.in_ok-item.item, c.read.new.at) c.in_ok-item.ensures

pub more-preserved : goal.more-preserved
more-preserved g c =
    let f = g.R.Repeated.form in
    rw c.in_ok-push.ensures.ok (goes_on token_code (first opens f) (reads f) g.R.Repeated.eats c.more.items c.more.at
    c.in_ok-item.item c.read.new.at (with_front c.args.before (reads (Many f) c.args.at.now))
    (sym c.starts.ensures ∙ c.more-test.true) c.in_ok-item.ensures c.more.invariant)

pub returns : goal.returns
returns g c =
    let f = g.R.Repeated.form in
    rw c.fitted.ensures (is_done token_code (first opens f) (reads f) g.R.Repeated.eats c.more.items c.more.at
    (with_front c.args.before (reads (Many f) c.args.at.now)) (sym c.starts.ensures ∙ c.more-test.false) c.more.invariant)
