use Rattle.capdl_read.proofs.Common.{[], behind_eats, behind_one, err_from_is_err_and, fails, goes_on, is_done, list_of, mark_code, rules, sym, token_code, ◌∷◌}
use Rattle.capdl_text.specs.declared.token.Mark.TheVariants as marks
use Rattle.capdl_read.proofs.line.listed.Goals as goal

pub returns-in_err-item : goal.returns-in_err-item
returns-in_err-item g c =
    let comma = mark_code marks.Comma in
    let cs = comma ∷ [] in
    let r = g.L.Line.gives in
    let p = err_from_is_err_and c.from_residual-in_err-item.result c.from_residual-in_err-item.ensures.1 in
    rw (p.1, p.2) (fails token_code cs (behind_one token_code cs r)
    (behind_eats token_code cs r (g.met.L.Line c.lifetimes (search rules)).eats) c.in_err-item.field-0.0 c.more.items
    c.more.at (list_of token_code comma r c.args.at.now) (sym c.more-test.ensures) c.in_err-item.ensures c.more.invariant)

pub more-preserved : goal.more-preserved
more-preserved g c =
    let comma = mark_code marks.Comma in
    let cs = comma ∷ [] in
    let r = g.L.Line.gives in
    rw c.in_ok-push-2.ensures.ok (goes_on token_code cs (behind_one token_code cs r)
    (behind_eats token_code cs r (g.met.L.Line c.lifetimes (search rules)).eats) c.more.items c.more.at c.in_ok-item.item
    c.next.new.at (list_of token_code comma r c.args.at.now) (sym c.more-test.ensures) c.in_ok-item.ensures c.more.invariant)

pub returns : goal.returns
returns g c =
    let comma = mark_code marks.Comma in
    let cs = comma ∷ [] in
    let r = g.L.Line.gives in
    rw c.fitted.ensures (is_done token_code cs (behind_one token_code cs r)
    (behind_eats token_code cs r (g.met.L.Line c.lifetimes (search rules)).eats) c.more.items c.more.at
    (list_of token_code comma r c.args.at.now) (sym c.more-test.ensures) c.more.invariant)
