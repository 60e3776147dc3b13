use Rattle.cert_check.proofs.Common.{refl}
use Rattle.cert_check.specs.declared.rule.Rule.TheVariants as rules
use Rattle.cert_check.proofs.Keeps.{runs_stay}
use Rattle.cert_check.proofs.Verdicts.{none_earlier, before_control, before_grant, before_call, before_grant_back, before_bind, before_policy, all_hold, judged_no, judged_yes}
use Rattle.cert_check.proofs.verdict.check.Goals as goal

pub returns-in-Some-clause-judged : goal.returns-in-Some-clause-judged
returns-in-Some-clause-judged c =
    rw c.alone.ensures
    (judged_no c.args.spec.now c.args.labels.now.by_object c.args.policy.now c.args.cert.now rules.BootEdges _ c.in-Some.lack
    (none_earlier c.args.spec.now c.args.labels.now.by_object c.args.policy.now c.args.cert.now)
    (c.in-Some.ensures, refl))

pub returns-in-Some-find_control-clause-judged : goal.returns-in-Some-find_control-clause-judged
returns-in-Some-find_control-clause-judged c =
    rw c.pair.ensures
    (judged_no c.args.spec.now c.args.labels.now.by_object c.args.policy.now c.args.cert.now rules.Control _
    c.in-Some-find_control.found.lack
    (before_control c.args.spec.now c.args.labels.now.by_object c.args.policy.now c.args.cert.now c.in_default.ensures)
    (c.in-Some-find_control.found, c.in-Some-find_control.ensures, refl, refl))

pub returns-in-Some-find_meeting-clause-judged : goal.returns-in-Some-find_meeting-clause-judged
returns-in-Some-find_meeting-clause-judged c =
    rw c.pair-in-Some-find_meeting.ensures
    (judged_no c.args.spec.now c.args.labels.now.by_object c.args.policy.now c.args.cert.now rules.Grant _
    c.in-Some-find_meeting.found.lack
    (before_grant c.args.spec.now c.args.labels.now.by_object c.args.policy.now c.args.cert.now c.in_default.ensures
    c.in_default-find_control.ensures)
    (c.in-Some-find_meeting.found, c.in-Some-find_meeting.ensures, refl, refl))

pub returns-in-Some-find_meeting-2-clause-judged : goal.returns-in-Some-find_meeting-2-clause-judged
returns-in-Some-find_meeting-2-clause-judged c =
    rw c.pair-in-Some-find_meeting-2.ensures
    (judged_no c.args.spec.now c.args.labels.now.by_object c.args.policy.now c.args.cert.now rules.Call _
    c.in-Some-find_meeting-2.found.lack
    (before_call c.args.spec.now c.args.labels.now.by_object c.args.policy.now c.args.cert.now c.in_default.ensures
    c.in_default-find_control.ensures c.in_default-find_meeting.ensures)
    (c.in-Some-find_meeting-2.found, c.in-Some-find_meeting-2.ensures, refl, refl))

pub returns-in-Some-find_meeting-3-clause-judged : goal.returns-in-Some-find_meeting-3-clause-judged
returns-in-Some-find_meeting-3-clause-judged c =
    rw c.pair-in-Some-find_meeting-3.ensures
    (judged_no c.args.spec.now c.args.labels.now.by_object c.args.policy.now c.args.cert.now rules.GrantBack _
    c.in-Some-find_meeting-3.found.lack
    (before_grant_back c.args.spec.now c.args.labels.now.by_object c.args.policy.now c.args.cert.now c.in_default.ensures
    c.in_default-find_control.ensures c.in_default-find_meeting.ensures c.in_default-find_meeting-2.ensures)
    (c.in-Some-find_meeting-3.found, c.in-Some-find_meeting-3.ensures, refl, refl))

pub returns-in-Some-find_bind-clause-judged : goal.returns-in-Some-find_bind-clause-judged
returns-in-Some-find_bind-clause-judged c =
    rw c.pair-in-Some-find_bind.ensures
    (judged_no c.args.spec.now c.args.labels.now.by_object c.args.policy.now c.args.cert.now rules.Bind _
    c.in-Some-find_bind.found.lack
    (before_bind c.args.spec.now c.args.labels.now.by_object c.args.policy.now c.args.cert.now c.in_default.ensures
    c.in_default-find_control.ensures c.in_default-find_meeting.ensures c.in_default-find_meeting-2.ensures
    c.in_default-find_meeting-3.ensures)
    (c.in-Some-find_bind.found, c.in-Some-find_bind.ensures, refl, refl))

pub returns-in-Some-find_outside-clause-judged : goal.returns-in-Some-find_outside-clause-judged
returns-in-Some-find_outside-clause-judged c =
    rw c.alone-in-Some-find_outside.ensures
    (judged_no c.args.spec.now c.args.labels.now.by_object c.args.policy.now c.args.cert.now rules.Policy _
    c.in-Some-find_outside.lack
    (before_policy c.args.spec.now c.args.labels.now.by_object c.args.policy.now c.args.cert.now c.in_default.ensures
    c.in_default-find_control.ensures c.in_default-find_meeting.ensures c.in_default-find_meeting-2.ensures
    c.in_default-find_meeting-3.ensures c.in_default-find_bind.ensures)
    (c.in-Some-find_outside.ensures, refl))

pub returns-in-None-clause-judged : goal.returns-in-None-clause-judged
returns-in-None-clause-judged c =
    judged_yes c.args.spec.now c.args.labels.now.by_object c.args.policy.now c.args.cert.now
    (all_hold c.args.spec.now c.args.labels.now.by_object c.args.policy.now c.args.cert.now c.in_default.ensures
    c.in_default-find_control.ensures c.in_default-find_meeting.ensures c.in_default-find_meeting-2.ensures
    c.in_default-find_meeting-3.ensures c.in_default-find_bind.ensures c.in-None.ensures)

pub returns-in-None-clause-sound : goal.returns-in-None-clause-sound
returns-in-None-clause-sound c = λ w.
    runs_stay c.args.spec.now c.args.labels.now.by_object c.args.policy.now c.args.cert.now
    (judged_yes c.args.spec.now c.args.labels.now.by_object c.args.policy.now c.args.cert.now
    (all_hold c.args.spec.now c.args.labels.now.by_object c.args.policy.now c.args.cert.now c.in_default.ensures
    c.in_default-find_control.ensures c.in_default-find_meeting.ensures c.in_default-find_meeting-2.ensures
    c.in_default-find_meeting-3.ensures c.in_default-find_bind.ensures c.in-None.ensures))
