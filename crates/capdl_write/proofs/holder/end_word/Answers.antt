use Rattle.capdl_write.proofs.Common.{false, true}
use Rattle.capdl_write.proofs.CapEnds.{end_is}
use Rattle.capdl_write.proofs.holder.end_word.Goals as goal

pub returns-in-true-true-true-true : goal.returns-in-true-true-true-true
returns-in-true-true-true-true c =
    let is = c.in-true-true-true-true in
    end_is c.args.rights.now true true true true is.is-0 is.is-1 is.is-2 is.is-3

pub returns-in-true-true-true-false : goal.returns-in-true-true-true-false
returns-in-true-true-true-false c =
    let is = c.in-true-true-true-false in
    end_is c.args.rights.now true true true false is.is-0 is.is-1 is.is-2 is.is-3

pub returns-in-true-true-false-true : goal.returns-in-true-true-false-true
returns-in-true-true-false-true c =
    let is = c.in-true-true-false-true in
    end_is c.args.rights.now true true false true is.is-0 is.is-1 is.is-2 is.is-3

pub returns-in-true-true-false-false : goal.returns-in-true-true-false-false
returns-in-true-true-false-false c =
    let is = c.in-true-true-false-false in
    end_is c.args.rights.now true true false false is.is-0 is.is-1 is.is-2 is.is-3

pub returns-in-true-false-true-true : goal.returns-in-true-false-true-true
returns-in-true-false-true-true c =
    let is = c.in-true-false-true-true in
    end_is c.args.rights.now true false true true is.is-0 is.is-1 is.is-2 is.is-3

pub returns-in-true-false-true-false : goal.returns-in-true-false-true-false
returns-in-true-false-true-false c =
    let is = c.in-true-false-true-false in
    end_is c.args.rights.now true false true false is.is-0 is.is-1 is.is-2 is.is-3

pub returns-in-true-false-false-true : goal.returns-in-true-false-false-true
returns-in-true-false-false-true c =
    let is = c.in-true-false-false-true in
    end_is c.args.rights.now true false false true is.is-0 is.is-1 is.is-2 is.is-3

pub returns-in-true-false-false-false : goal.returns-in-true-false-false-false
returns-in-true-false-false-false c =
    let is = c.in-true-false-false-false in
    end_is c.args.rights.now true false false false is.is-0 is.is-1 is.is-2 is.is-3

pub returns-in-false-true-true-true : goal.returns-in-false-true-true-true
returns-in-false-true-true-true c =
    let is = c.in-false-true-true-true in
    end_is c.args.rights.now false true true true is.is-0 is.is-1 is.is-2 is.is-3

pub returns-in-false-true-true-false : goal.returns-in-false-true-true-false
returns-in-false-true-true-false c =
    let is = c.in-false-true-true-false in
    end_is c.args.rights.now false true true false is.is-0 is.is-1 is.is-2 is.is-3

pub returns-in-false-true-false-true : goal.returns-in-false-true-false-true
returns-in-false-true-false-true c =
    let is = c.in-false-true-false-true in
    end_is c.args.rights.now false true false true is.is-0 is.is-1 is.is-2 is.is-3

pub returns-in-false-true-false-false : goal.returns-in-false-true-false-false
returns-in-false-true-false-false c =
    let is = c.in-false-true-false-false in
    end_is c.args.rights.now false true false false is.is-0 is.is-1 is.is-2 is.is-3

pub returns-in-false-false-true-true : goal.returns-in-false-false-true-true
returns-in-false-false-true-true c =
    let is = c.in-false-false-true-true in
    end_is c.args.rights.now false false true true is.is-0 is.is-1 is.is-2 is.is-3

pub returns-in-false-false-true-false : goal.returns-in-false-false-true-false
returns-in-false-false-true-false c =
    let is = c.in-false-false-true-false in
    end_is c.args.rights.now false false true false is.is-0 is.is-1 is.is-2 is.is-3

pub returns-in-false-false-false-true : goal.returns-in-false-false-false-true
returns-in-false-false-false-true c =
    let is = c.in-false-false-false-true in
    end_is c.args.rights.now false false false true is.is-0 is.is-1 is.is-2 is.is-3

pub returns-in-false-false-false-false : goal.returns-in-false-false-false-false
returns-in-false-false-false-false c =
    let is = c.in-false-false-false-false in
    end_is c.args.rights.now false false false false is.is-0 is.is-1 is.is-2 is.is-3
