-- The lines that commands over texts print.
use Rattle.std.specs.Prelude.{ℕ, List, [], ◌∷◌, codes, decimal, length, Option, Some, None}
use Rattle.std.specs.List.{flat_map}
use Rattle.cap_model.specs.declared.edge.Edge.{Edge}
use Rattle.cam_base.specs.Texts.{◌⊹◌, together}
use Rattle.cap_audit.specs.declared.report.AuditReport.{AuditReport}
use Rattle.cap_machine.specs.declared.step.Why.{Why}
use Rattle.cap_machine.specs.declared.step.Why.TheVariants as why
use Rattle.cap_model.specs.declared.spec.Spec.{Spec}
use Rattle.policy_text.specs.EdgeLines.{LabelNames, apart_lines, edge_line}
use Rattle.step_text.specs.StepLines.{steps_text}
use Rattle.text_commands.specs.Codes.{word_of, title_of}
use Rattle.text_commands.specs.declared.fault.InputFault.{InputFault}

-- a space in front of a name that isn't empty
abbrev pub space_before : List ℕ → List ℕ
space_before [] = []
space_before (b ∷ bs) = codes " "

abbrev pub place_text : List ℕ → ℕ → ℕ → List ℕ
place_text file first end = together (file ∷ codes ":" ∷ decimal first ∷ codes "-" ∷ decimal end ∷ codes ": " ∷ [])

abbrev pub code_text : List ℕ → List ℕ → List ℕ → List ℕ
code_text word title name = together (word ∷ codes " " ∷ title ∷ space_before name ∷ name ∷ codes "\n" ∷ [])

-- `t.cdl:53-54: C6 SlotRange c`
abbrev pub fault_line : List ℕ → InputFault → List ℕ
fault_line file fault = place_text file fault.first fault.end ⊹ code_text (word_of fault.code) (title_of fault.code) fault.name

-- ---- verdicts

abbrev pub have_line : LabelNames → Option Edge → List ℕ
have_line labels None = []
have_line labels (Some e) = edge_line (codes "have ") labels e

abbrev pub rule_line : ℕ → List ℕ
rule_line rule = together (codes "no V" ∷ decimal rule ∷ codes "\n" ∷ [])

-- `no V4`, the edges that the rule starts from, and the one that is lacking
abbrev pub refusal_text : LabelNames → ℕ → List (Option Edge) → Edge → List ℕ
refusal_text labels rule have lack = rule_line rule ⊹ flat_map (have_line labels) have ⊹ edge_line (codes "lack ") labels lack

-- ---- steps

-- the word of an answer of the table, and the number that it names
abbrev pub why_of : Why → List ℕ × Option ℕ
why_of why.Waiting = (codes "Waiting", None)
why_of why.NoRoot = (codes "NoRoot", None)
why_of why.NoPending = (codes "NoPending", None)
why_of why.NoGrant = (codes "NoGrant", None)
why_of (why.NoCap n) = (codes "NoCap ", Some n)
why_of (why.WrongKind n) = (codes "WrongKind ", Some n)
why_of (why.NoRight n) = (codes "NoRight ", Some n)
why_of why.SamePeer = (codes "SamePeer", None)
why_of why.PeerWaiting = (codes "PeerWaiting", None)
why_of why.PeerNoRoot = (codes "PeerNoRoot", None)
why_of (why.PeerNoCap n) = (codes "PeerNoCap ", Some n)
why_of (why.PeerWrongKind n) = (codes "PeerWrongKind ", Some n)
why_of (why.PeerNoRight n) = (codes "PeerNoRight ", Some n)
why_of why.OtherEndpoint = (codes "OtherEndpoint", None)

abbrev pub number_text : Option ℕ → List ℕ
number_text None = []
number_text (Some n) = decimal n

-- `illegal 2 Waiting`, `illegal 1 NoCap 3`: steps are counted from 1
abbrev pub illegal_text : ℕ → Why → List ℕ
illegal_text number why =
    together (codes "illegal " ∷ decimal number ∷ codes " " ∷ (why_of why).0 ∷ number_text (why_of why).1 ∷ codes "\n" ∷ [])

abbrev pub count_line : ℕ → List ℕ
count_line count = together (codes "ok " ∷ decimal count ∷ codes " steps\n" ∷ [])

-- `ok 3 steps`, and the edges of the last state
abbrev pub run_text : LabelNames → ℕ → List Edge → List ℕ
run_text labels count edges = count_line count ⊹ apart_lines labels edges

-- ---- audits

abbrev pub reach_line : ℕ → ℕ → List ℕ
reach_line edges steps = together (codes "reach " ∷ decimal edges ∷ codes " edges " ∷ decimal steps ∷ codes " steps\n" ∷ [])

-- `reach 5 edges 6 steps`, the edges, and the steps
abbrev pub report_text : LabelNames → Spec → AuditReport → List ℕ
report_text labels spec report =
    reach_line (length report.edges) (length report.steps) ⊹ apart_lines labels report.edges ⊹ steps_text spec report.steps
