use Rattle.explain.proofs.Common.{IsFirstEnd, LockHandler, refl, subst, told}
use Rattle.explain.proofs.Stages.{lock_first, lock_none}
use Rattle.explain.proofs.first.lock_reason.Goals as goal

pub returns-in_default : goal.returns-in_default
returns-in_default c =
    let t = told c.args.search.now.tables in
    let e = c.args.search.now.edge in
    lock_none t e (subst (λ o. IsFirstEnd t e LockHandler o) c.in_default.is c.in_ok-handler.ensures)

pub returns : goal.returns
returns c =
    let t = told c.args.search.now.tables in
    let e = c.args.search.now.edge in
    let h = c.in-Some.handler in
    lock_first t e h (h.place, h.number) c.in-Some-first_lock.lock refl
    (subst (λ o. IsFirstEnd t e LockHandler o) c.in-Some.is c.in_ok-handler.ensures) c.in-Some-first_lock.ensures
