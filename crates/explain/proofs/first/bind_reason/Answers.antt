use Rattle.explain.proofs.Common.{Handler, IsFirstEnd, Signaller, refl, subst, told}
use Rattle.explain.proofs.Stages.{bind_first, bind_none, signalled}
use Rattle.explain.proofs.first.bind_reason.Goals as goal

pub returns-in_default : goal.returns-in_default
returns-in_default c =
    let t = told c.args.search.now.tables in
    let e = c.args.search.now.edge in
    bind_none t e (subst (λ o. IsFirstEnd t e Handler o) c.in_default.is c.in_ok-handler.ensures)

pub returns-in_default-2 : goal.returns-in_default-2
returns-in_default-2 c x =
    let t = told c.args.search.now.tables in
    let e = c.args.search.now.edge in
    signalled t e c.in-Some.handler (subst (λ o. IsFirstEnd t e Handler o) c.in-Some.is c.in_ok-handler.ensures)
    (subst (λ o. IsFirstEnd t e (Signaller c.in-Some.handler.label) o) c.in_default-2.is c.in_ok-signaller.ensures)

pub returns : goal.returns
returns c =
    let t = told c.args.search.now.tables in
    let e = c.args.search.now.edge in
    let h = c.in-Some.handler in
    let s = c.in-Some-2.signaller in
    bind_first t e h s (h.place, h.number) (s.place, s.number) refl refl
    (subst (λ o. IsFirstEnd t e Handler o) c.in-Some.is c.in_ok-handler.ensures)
    (subst (λ o. IsFirstEnd t e (Signaller c.in-Some.handler.label) o) c.in-Some-2.is c.in_ok-signaller.ensures)
