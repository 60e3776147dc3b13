use Rattle.capdl_read.proofs.Common.{err_from_is_err_and, fails, goes_on, is_done, many, rules, sym, token_code}
use Rattle.capdl_read.proofs.line.all.Goals as goal

pub returns-in_err-item : goal.returns-in_err-item
returns-in_err-item g c =
    let cs = g.L.Line.codes in
    let r = g.L.Line.gives in
    let p = err_from_is_err_and c.from_residual.result c.from_residual.ensures.1 in
    rw (p.1, p.2) (fails token_code cs r (g.met.L.Line c.lifetimes (search rules)).eats c.in_err-item.field-0.0 c.more.items
    c.more.at (many token_code cs r c.args.at.now) (sym c.more-test.ensures) c.in_err-item.ensures c.more.invariant)

pub more-smaller : goal.more-smaller
more-smaller g c = (g.met.L.Line c.lifetimes (search rules)).eats c.more.at (c.in_ok-item.item, c.read.new.at)
    c.in_ok-item.ensures

pub more-preserved : goal.more-preserved
more-preserved g c =
    let cs = g.L.Line.codes in
    let r = g.L.Line.gives in
    rw c.in_ok-push.ensures.ok (goes_on token_code cs r (g.met.L.Line c.lifetimes (search rules)).eats c.more.items c.more.at
    c.in_ok-item.item c.read.new.at (many token_code cs r c.args.at.now) (sym c.more-test.ensures) c.in_ok-item.ensures
    c.more.invariant)

pub returns : goal.returns
returns g c =
    let cs = g.L.Line.codes in
    let r = g.L.Line.gives in
    rw c.fitted.ensures (is_done token_code cs r (g.met.L.Line c.lifetimes (search rules)).eats c.more.items c.more.at
    (many token_code cs r c.args.at.now) (sym c.more-test.ensures) c.more.invariant)
