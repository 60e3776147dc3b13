use Rattle.text_commands.proofs.AuditBack.{audit_readable, audit_replayed, audit_shown}
use Rattle.text_commands.proofs.laws.audits_are_replayed.Goals as goal

pub returns-clause-readable : goal.returns-clause-readable
returns-clause-readable c = λ m old new cdl policy report spec names audited few. audit_readable m old new old new cdl policy
    report spec names audited few

pub returns-clause-replayed : goal.returns-clause-replayed
returns-clause-replayed c = λ m old new later last cdl policy report spec names audited few steps answer held is run.
    audit_replayed m old new later last cdl policy report spec names audited steps answer few held is run

pub returns-clause-shown : goal.returns-clause-shown
returns-clause-shown c = λ m old new later last cdl policy report spec names audited few l a x has.
    audit_shown m old new later last cdl policy report spec names audited few l a x has
