use Rattle.explain.proofs.Common.{Given, IsFirstEnd, refl, subst, told}
use Rattle.explain.proofs.Stages.{direct_first, direct_none}
use Rattle.explain.proofs.first.direct_reason.Goals as goal

pub returns-in_default : goal.returns-in_default
returns-in_default c =
    let t = told c.args.search.now.tables in
    let e = c.args.search.now.edge in
    direct_none t e (subst (λ o. IsFirstEnd t e Given o) c.in_default.is c.in_ok-end.ensures)

pub returns : goal.returns
returns c =
    let t = told c.args.search.now.tables in
    let e = c.args.search.now.edge in
    let x = c.in-Some.end in
    direct_first t e x (x.place, x.number) refl (subst (λ o. IsFirstEnd t e Given o) c.in-Some.is c.in_ok-end.ensures)
