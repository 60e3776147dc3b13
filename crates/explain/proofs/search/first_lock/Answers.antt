use Rattle.explain.proofs.Common.{ap, arith, length, read_place, told}
use Rattle.explain.proofs.Searching.{lock_least, lock_more, lock_none}
use Rattle.explain.proofs.search.first_lock.Goals as goal

pub returns-in-Some : goal.returns-in-Some
returns-in-Some c =
    let t = told c.args.tables.now in
    lock_least t c.args.label c.loop-number.number c.leaf-item.result c.in-Some.member
    (read_place t.flat.leaves c.as_slice-leaf-items.result.now c.loop-number.number c.leaf-item.result
    c.as_slice-leaf-items.ensures c.loop-number-test.true c.leaf-item.is)
    c.in-Some.ensures c.loop-number.invariant

pub loop-number-preserved : goal.loop-number-preserved
loop-number-preserved c =
    let t = told c.args.tables.now in
    lock_more t c.args.label c.loop-number.number c.leaf-item.result
    (read_place t.flat.leaves c.as_slice-leaf-items.result.now c.loop-number.number c.leaf-item.result
    c.as_slice-leaf-items.ensures c.loop-number-test.true c.leaf-item.is)
    c.in_default.ensures c.loop-number.invariant

pub returns : goal.returns
returns c =
    let l = ap length c.as_slice-leaf-items.ensures in
    let past = c.loop-number-test.false in
    lock_none (told c.args.tables.now) c.args.label c.loop-number.number (omega (arith, l, past)) c.loop-number.invariant
