use Rattle.least_cert.proofs.Common.{arith, sym, ◌∙◌}
use Rattle.least_cert.proofs.Spreading.{many}
use Rattle.least_cert.proofs.closing.Closing.table.Goals as goal

pub returns-then-len-gt-LIMIT-clause-refused : goal.returns-then-len-gt-LIMIT-clause-refused
returns-then-len-gt-LIMIT-clause-refused c =
    many c.args.self.now c.in_ok-table.table (λ e h. c.requires e (sym (c.in_ok-table.ensures.same e) ∙ h)) c.len.ensures.sorted
    (let t = c.if-len-gt-LIMIT.true in let l = c.len.ensures.len in omega arith)
