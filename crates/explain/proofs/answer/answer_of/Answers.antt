use Rattle.explain.proofs.Common.{tables_of}
use Rattle.explain.proofs.Asking.{asked_is}
use Rattle.explain.proofs.answer.answer_of.Goals as goal

pub returns-in-Err-NotAssigned : goal.returns-in-Err-NotAssigned
returns-in-Err-NotAssigned c =
    let q = c.args.question.now in
    asked_is (tables_of c.args.source.now c.args.flat.now c.args.settled.now) q.from.now q.authority.now q.to.now
    c.in-Some.authority c.in-Err-NotAssigned.field-0 c.in-Some.ensures c.in-Err-NotAssigned.field-0-is
    c.in-Err-NotAssigned.ensures
