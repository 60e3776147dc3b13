-- What a command over texts prints, and whether it ends well.
use Rattle.std.specs.Prelude.{ℕ, Bool, true, false, List, codes}
use Rattle.boot_plan.specs.Texts.{plan_text}
use Rattle.cert_check.specs.declared.verdict.Verdict.{Verdict}
use Rattle.cert_check.specs.declared.verdict.Verdict.TheVariants.{Yes, No}
use Rattle.sect_table.specs.Texts.{table_text}
use Rattle.policy_text.specs.EdgeLines.{LabelNames}
use Rattle.policy_text.specs.PolicyLines.{cert_text}
use Rattle.text_commands.specs.Lines.{illegal_text, refusal_text, report_text, run_text}
use Rattle.text_commands.specs.declared.outcome.Outcome.{Outcome}
use Rattle.text_commands.specs.declared.outcome.Outcome.TheVariants.{Audited, Certified, Checked, Planned, Ran, Tabled}
use Rattle.text_commands.specs.declared.replay.Replayed.{Replayed}
use Rattle.text_commands.specs.declared.replay.Replayed.TheVariants.{Done, Illegal}

abbrev pub verdict_text : LabelNames → Verdict → List ℕ
verdict_text labels Yes = codes "yes\n"
verdict_text labels (No rule have lack) = refusal_text labels rule have lack

abbrev pub replay_text : LabelNames → Replayed → List ℕ
replay_text labels (Done count edges) = run_text labels count edges
replay_text labels (Illegal number why) = illegal_text number why

abbrev pub text_of : Outcome → List ℕ
text_of (Checked verdict labels) = verdict_text labels verdict
text_of (Ran replayed labels) = replay_text labels replayed
text_of (Tabled image) = table_text image
text_of (Audited report spec labels) = report_text labels spec report
text_of (Certified cert) = cert_text cert
text_of (Planned plan spec) = plan_text spec plan.places

abbrev pub is_yes : Verdict → Bool
is_yes Yes = true
is_yes (No rule have lack) = false

abbrev pub is_done : Replayed → Bool
is_done (Done count edges) = true
is_done (Illegal number why) = false

-- whether the answer is the one that was hoped for
abbrev pub is_well : Outcome → Bool
is_well (Checked verdict labels) = is_yes verdict
is_well (Ran replayed labels) = is_done replayed
is_well _ = true
