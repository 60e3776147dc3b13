use Rattle.camkes_tool.proofs.Common.{command_of}
use Rattle.camkes_tool.proofs.Accepted.{texts_accepted}
use Rattle.camkes_tool.proofs.Asked.{explained_written, listed_written}
use Rattle.camkes_tool.proofs.Printed.{certificate_written, report_written, table_written}
use Rattle.camkes_tool.proofs.Written.{checked_safe, compiled_written}
use Rattle.camkes_tool.proofs.top.run.Goals as goal

pub returns-clause-compiled : goal.returns-clause-compiled
returns-clause-compiled g c = λ root base asked zero.
    let files = c.decide-answer.new.files in
    compiled_written (g.F.Files.told files) (g.met.F.Files.some files) _ _ root base _ _ _ _ _ zero _ c.decide-answer.result asked
    c.decide-answer.ensures.fits c.tell-status.ensures

pub returns-clause-listed : goal.returns-clause-listed
returns-clause-listed g c = λ root asked zero.
    let files = c.decide-answer.new.files in
    listed_written (g.F.Files.told files) (g.met.F.Files.some files) _ _ _ _ _ _ _ root zero _ c.decide-answer.result asked
    c.decide-answer.ensures.fits c.tell-status.ensures

pub returns-clause-explained : goal.returns-clause-explained
returns-clause-explained g c = λ root from authority to asked ends.
    let files = c.decide-answer.new.files in
    explained_written (g.F.Files.told files) (g.met.F.Files.some files) _ _ _ _ _ _ _ root from authority to ends _
    c.decide-answer.result asked c.decide-answer.ensures.fits c.tell-status.ensures

pub returns-clause-checked : goal.returns-clause-checked
returns-clause-checked g c = λ cdl policy cert asked zero m told.
    checked_safe _ _ _ cdl policy cert _ _ _ _ _ zero _ c.decide-answer.result asked (c.decide-answer.ensures.fits m told)
    c.tell-status.ensures

pub returns-clause-accepted : goal.returns-clause-accepted
returns-clause-accepted g c = λ cdl policy cert asked m told holds none kept.
    texts_accepted _ _ _ cdl policy cert (command_of c.args.words.now) c.decide-answer.result _ _ _ _ _ asked holds none
    kept (c.decide-answer.ensures.fits m told) c.tell-status.ensures

pub returns-clause-certified : goal.returns-clause-certified
returns-clause-certified g c = λ cdl policy asked zero.
    let files = c.decide-answer.new.files in
    certificate_written (g.F.Files.told files) (g.met.F.Files.some files) _ _ _ _ _ _ _ zero cdl policy _ c.decide-answer.result
    asked c.decide-answer.ensures.fits c.tell-status.ensures

pub returns-clause-tabled : goal.returns-clause-tabled
returns-clause-tabled g c = λ elf asked zero.
    let files = c.decide-answer.new.files in
    table_written (g.F.Files.told files) (g.met.F.Files.some files) _ _ _ _ _ _ _ zero elf _ c.decide-answer.result asked
    c.decide-answer.ensures.fits c.tell-status.ensures

pub returns-clause-audited : goal.returns-clause-audited
returns-clause-audited g c = λ cdl policy asked zero.
    let files = c.decide-answer.new.files in
    report_written (g.F.Files.told files) (g.met.F.Files.some files) _ _ _ _ _ _ _ zero cdl policy _ c.decide-answer.result asked
    c.decide-answer.ensures.fits c.tell-status.ensures
