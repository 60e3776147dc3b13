use Rattle.explain.proofs.Common.{BindReason, CallReason, DirectReason, IsFirstOf, Option, by_bind, by_call, by_direct, subst, told, told_of}
use Rattle.explain.specs.declared.reason.Reason.{Reason as Told}
use Rattle.explain.proofs.Stages.{bind_all, call_all, direct_all, lock_all}
use Rattle.explain.proofs.first.first_reason.Goals as goal

pub returns-in-Some : goal.returns-in-Some
returns-in-Some c =
    let t = told c.args.search.now.tables in
    let e = c.args.search.now.edge in
    let D : Option Told → Type 0 = λ o. IsFirstOf (DirectReason t e) (λ d. told_of t e (by_direct d)) o in
    direct_all t e c.in-Some.direct (subst D c.in-Some.is c.in_ok-direct.ensures)

pub returns-in-Some-2 : goal.returns-in-Some-2
returns-in-Some-2 c =
    let t = told c.args.search.now.tables in
    let e = c.args.search.now.edge in
    let D : Option Told → Type 0 = λ o. IsFirstOf (DirectReason t e) (λ d. told_of t e (by_direct d)) o in
    let C : Option Told → Type 0 = λ o. IsFirstOf (CallReason t e) (λ d. told_of t e (by_call d)) o in
    call_all t e c.in-Some-2.call (subst D c.in_default.is c.in_ok-direct.ensures) (subst C c.in-Some-2.is c.in_ok-call.ensures)

pub returns-in-Some-3 : goal.returns-in-Some-3
returns-in-Some-3 c =
    let t = told c.args.search.now.tables in
    let e = c.args.search.now.edge in
    let D : Option Told → Type 0 = λ o. IsFirstOf (DirectReason t e) (λ d. told_of t e (by_direct d)) o in
    let C : Option Told → Type 0 = λ o. IsFirstOf (CallReason t e) (λ d. told_of t e (by_call d)) o in
    let B : Option Told → Type 0 = λ o. IsFirstOf (BindReason t e) (λ d. told_of t e (by_bind d)) o in
    bind_all t e c.in-Some-3.bind (subst D c.in_default.is c.in_ok-direct.ensures)
    (subst C c.in_default-2.is c.in_ok-call.ensures) (subst B c.in-Some-3.is c.in_ok-bind.ensures)

pub returns : goal.returns
returns c =
    let t = told c.args.search.now.tables in
    let e = c.args.search.now.edge in
    let D : Option Told → Type 0 = λ o. IsFirstOf (DirectReason t e) (λ d. told_of t e (by_direct d)) o in
    let C : Option Told → Type 0 = λ o. IsFirstOf (CallReason t e) (λ d. told_of t e (by_call d)) o in
    let B : Option Told → Type 0 = λ o. IsFirstOf (BindReason t e) (λ d. told_of t e (by_bind d)) o in
    lock_all t e c.in_ok-lock.lock (subst D c.in_default.is c.in_ok-direct.ensures)
    (subst C c.in_default-2.is c.in_ok-call.ensures) (subst B c.in_default-3.is c.in_ok-bind.ensures) c.in_ok-lock.ensures
