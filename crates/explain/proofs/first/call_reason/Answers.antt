use Rattle.explain.proofs.Common.{Caller, IsFirstEnd, Server, refl, subst, told}
use Rattle.explain.proofs.Stages.{call_first, call_none, served}
use Rattle.explain.proofs.first.call_reason.Goals as goal

pub returns-in_default : goal.returns-in_default
returns-in_default c =
    let t = told c.args.search.now.tables in
    let e = c.args.search.now.edge in
    call_none t e (subst (λ o. IsFirstEnd t e Caller o) c.in_default.is c.in_ok-caller.ensures)

pub returns-in_default-2 : goal.returns-in_default-2
returns-in_default-2 c x =
    let t = told c.args.search.now.tables in
    let e = c.args.search.now.edge in
    served t e c.in-Some.caller (subst (λ o. IsFirstEnd t e Caller o) c.in-Some.is c.in_ok-caller.ensures)
    (subst (λ o. IsFirstEnd t e (Server c.in-Some.caller.place) o) c.in_default-2.is c.in_ok-server.ensures)

pub returns : goal.returns
returns c =
    let t = told c.args.search.now.tables in
    let e = c.args.search.now.edge in
    let x = c.in-Some.caller in
    let y = c.in-Some-2.server in
    call_first t e x y (x.place, x.number) (y.place, y.number) refl refl
    (subst (λ o. IsFirstEnd t e Caller o) c.in-Some.is c.in_ok-caller.ensures)
    (subst (λ o. IsFirstEnd t e (Server c.in-Some.caller.place) o) c.in-Some-2.is c.in_ok-server.ensures)
