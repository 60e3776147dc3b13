use Rattle.explain.proofs.Common.{IsFirstAt, ap, arith, length, read_place, subst, told}
use Rattle.explain.proofs.Searching.{least_at, none_all, none_more}
use Rattle.explain.proofs.search.Search.first_end.Goals as goal

pub returns-in-Some : goal.returns-in-Some
returns-in-Some c =
    let t = told c.args.self.now.tables in
    let e = c.args.self.now.edge in
    let at = c.index-connections-place.result in
    least_at t e c.args.sought c.loop-place.place at c.in-Some.found
    (read_place t.flat.connections c.as_slice-connections.result.now c.loop-place.place at c.as_slice-connections.ensures
    c.loop-place-test.true c.index-connections-place.is)
    (subst (λ o. IsFirstAt t e c.args.sought c.loop-place.place at o) c.in-Some.is c.in_ok-found.ensures) c.loop-place.invariant

pub loop-place-preserved : goal.loop-place-preserved
loop-place-preserved c =
    let t = told c.args.self.now.tables in
    let e = c.args.self.now.edge in
    let at = c.index-connections-place.result in
    none_more t e c.args.sought c.loop-place.place at
    (read_place t.flat.connections c.as_slice-connections.result.now c.loop-place.place at c.as_slice-connections.ensures
    c.loop-place-test.true c.index-connections-place.is)
    (subst (λ o. IsFirstAt t e c.args.sought c.loop-place.place at o) c.in_default.is c.in_ok-found.ensures)
    c.loop-place.invariant

pub returns : goal.returns
returns c =
    let l = ap length c.as_slice-connections.ensures in
    let past = c.loop-place-test.false in
    none_all (told c.args.self.now.tables) c.args.self.now.edge c.args.sought c.loop-place.place (omega (arith, l, past))
    c.loop-place.invariant
