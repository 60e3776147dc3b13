use Rattle.camkes_tool.proofs.Learns.{audit_learns, certify_learns, check_learns, compile_learns, explain_learns, list_learns, plan_learns, replay_learns, table_learns}
use Rattle.camkes_tool.proofs.Telling.{audit_fits, certify_fits, check_fits, plan_fits, replay_fits, table_fits}
use Rattle.camkes_tool.proofs.decide.follow.Goals as goal

pub returns-in-Check-clause-fits : goal.returns-in-Check-clause-fits
returns-in-Check-clause-fits g c m told =
    check_fits m (g.F.Files.faults c.args.files.now) (g.F.Files.faults c.checked.new.files) c.args.command.now c.checked.result
    _ _ _ _ _ _ c.in-Check.is c.as_name-in-Check.ensures c.as_name-in-Check-2.ensures c.as_name-in-Check-3.ensures
    (c.checked.ensures.fits m told)

pub returns-in-Replay-clause-fits : goal.returns-in-Replay-clause-fits
returns-in-Replay-clause-fits g c m told =
    replay_fits m (g.F.Files.faults c.args.files.now) (g.F.Files.faults c.replayed.new.files) c.args.command.now c.replayed.result
    _ _ _ _ _ _ c.in-Replay.is c.as_name-in-Replay.ensures c.as_name-in-Replay-2.ensures c.as_name-in-Replay-3.ensures
    (c.replayed.ensures.fits m told)

pub returns-in-Audit-clause-fits : goal.returns-in-Audit-clause-fits
returns-in-Audit-clause-fits g c m told =
    audit_fits m (g.F.Files.faults c.args.files.now) (g.F.Files.faults c.audited.new.files) c.args.command.now c.audited.result
    _ _ _ _ c.in-Audit.is c.as_name-in-Audit.ensures c.as_name-in-Audit-2.ensures (c.audited.ensures.fits m told)

pub returns-in-Certify-clause-fits : goal.returns-in-Certify-clause-fits
returns-in-Certify-clause-fits g c m told =
    certify_fits m (g.F.Files.faults c.args.files.now) (g.F.Files.faults c.certified.new.files) c.args.command.now
    c.certified.result
    _ _ _ _ c.in-Certify.is c.as_name-in-Certify.ensures c.as_name-in-Certify-2.ensures (c.certified.ensures.fits m told)

pub returns-in-Sections-clause-fits : goal.returns-in-Sections-clause-fits
returns-in-Sections-clause-fits g c m told =
    table_fits m (g.F.Files.faults c.args.files.now) (g.F.Files.faults c.tabled.new.files) c.args.command.now c.tabled.result
    _ _ c.in-Sections.is c.as_name-in-Sections.ensures (c.tabled.ensures.fits m told)

pub returns-in-Plan-clause-fits : goal.returns-in-Plan-clause-fits
returns-in-Plan-clause-fits g c m told =
    plan_fits m (g.F.Files.faults c.args.files.now) (g.F.Files.faults c.planned.new.files) c.args.command.now c.planned.result
    _ _ _ _ c.in-Plan.is c.as_name-in-Plan.ensures c.as_name-in-Plan-2.ensures (c.planned.ensures.fits m told)

pub returns-in-Compile-clause-learned : goal.returns-in-Compile-clause-learned
returns-in-Compile-clause-learned g c =
    compile_learns g.F.Files.told c.args.files.now c.answer.new.files c.args.command.now _ _ _ c.in-Compile.is c.as_name.ensures
    c.answer.ensures.learned

pub returns-in-Check-clause-learned : goal.returns-in-Check-clause-learned
returns-in-Check-clause-learned g c =
    check_learns g.F.Files.told c.args.files.now c.checked.new.files c.args.command.now _ _ _ _ _ _
    c.as_name-in-Check.ensures c.as_name-in-Check-2.ensures c.as_name-in-Check-3.ensures c.checked.ensures.learned c.in-Check.is

pub returns-in-List-clause-learned : goal.returns-in-List-clause-learned
returns-in-List-clause-learned g c =
    list_learns g.F.Files.told c.args.files.now c.listed.new.files c.args.command.now _ _ c.in-List.is c.as_name-in-List.ensures
    c.listed.ensures.learned

pub returns-in-Explain-clause-learned : goal.returns-in-Explain-clause-learned
returns-in-Explain-clause-learned g c =
    explain_learns g.F.Files.told c.args.files.now c.explained.new.files c.args.command.now _ _ _ _ _ c.in-Explain.is
    c.as_name-in-Explain.ensures c.explained.ensures.learned

pub returns-in-Replay-clause-learned : goal.returns-in-Replay-clause-learned
returns-in-Replay-clause-learned g c =
    replay_learns g.F.Files.told c.args.files.now c.replayed.new.files c.args.command.now _ _ _ _ _ _
    c.as_name-in-Replay.ensures c.as_name-in-Replay-2.ensures c.as_name-in-Replay-3.ensures c.replayed.ensures.learned
    c.in-Replay.is

pub returns-in-Audit-clause-learned : goal.returns-in-Audit-clause-learned
returns-in-Audit-clause-learned g c =
    audit_learns g.F.Files.told c.args.files.now c.audited.new.files c.args.command.now _ _ _ _
    c.as_name-in-Audit.ensures c.as_name-in-Audit-2.ensures c.audited.ensures.learned c.in-Audit.is

pub returns-in-Certify-clause-learned : goal.returns-in-Certify-clause-learned
returns-in-Certify-clause-learned g c =
    certify_learns g.F.Files.told c.args.files.now c.certified.new.files c.args.command.now _ _ _ _
    c.as_name-in-Certify.ensures c.as_name-in-Certify-2.ensures c.certified.ensures.learned c.in-Certify.is

pub returns-in-Sections-clause-learned : goal.returns-in-Sections-clause-learned
returns-in-Sections-clause-learned g c =
    table_learns g.F.Files.told c.args.files.now c.tabled.new.files c.args.command.now _ _ c.in-Sections.is
    c.as_name-in-Sections.ensures c.tabled.ensures.learned

pub returns-in-Plan-clause-learned : goal.returns-in-Plan-clause-learned
returns-in-Plan-clause-learned g c =
    plan_learns g.F.Files.told c.args.files.now c.planned.new.files c.args.command.now _ _ _ _
    c.as_name-in-Plan.ensures c.as_name-in-Plan-2.ensures c.planned.ensures.learned c.in-Plan.is
