-- What is told of a policy: of two labels a shortest chain of edges by which something passes from the first to the second, in
-- the order in which it passes, behind a line that counts them; and of each label those that can come to influence it.
--
--   flow 2 edges             drv: timer uart
--   drv SyncSend app         app: drv timer uart
--   log Read app
use Rattle.std.specs.Prelude.{◌≡◌, ℕ, ◌==◌, Bool, not, ◌&&◌, if◌then◌else◌, List, [], ◌∷◌, ◌++◌, length, Option, Some, None, codes, decimal}
use Rattle.std.specs.List.{flat_map}
use Rattle.cap_model.specs.Policies.{label_number}
use Rattle.cap_model.specs.declared.edge.Edge.{Edge}
use Rattle.cap_model.specs.declared.policy.Policy.{Policy}
use Rattle.cam_base.specs.Texts.{together}
use Rattle.policy_text.specs.EdgeLines.{edge_line, LabelNames}
use Rattle.label_flow.specs.declared.told.Told.{Told}
use Rattle.label_flow.specs.declared.told.Told.TheVariants.{Flows, NoFlow, NoFrom, NoTo}
use Rattle.label_flow.specs.Chain.{AreSources, IsFlow}

-- ---- of two labels

abbrev pub chain_text : LabelNames → List Edge → List ℕ
chain_text labels chain =
    together (codes "flow " ∷ decimal (length chain) ∷ codes " edges\n" ∷ []) ++ flat_map (edge_line [] labels) chain

abbrev pub Tells : LabelNames → Option (List Edge) → Told → Type 0
Tells labels None told = told ≡ NoFlow
Tells labels (Some chain) told = told ≡ Flows (chain_text labels chain)

-- where both names are labels', what flows from the one to the other
abbrev pub IsOfLabels : Policy → Option ℕ → Option ℕ → Told → Type 0
IsOfLabels policy None to told = told ≡ NoFrom
IsOfLabels policy (Some from) None told = told ≡ NoTo
IsOfLabels policy (Some from) (Some to) told =
    (found : Option (List Edge)) × IsFlow policy.edges from to found × Tells policy.labels found told

abbrev pub IsTold : Policy → List ℕ → List ℕ → Told → Type 0
IsTold policy from to told = IsOfLabels policy (label_number policy.labels from) (label_number policy.labels to) told

-- ---- of all labels

-- the name of another label that is told as a source
abbrev pub source_word : (ℕ → Bool) → ℕ → ℕ × List ℕ → List ℕ
source_word has to l = if not (l.0 == to) && has l.0 then together (codes " " ∷ l.1 ∷ []) else []

abbrev pub source_line : LabelNames → (ℕ → Bool) → ℕ × List ℕ → List ℕ
source_line labels has m = (together (m.1 ∷ codes ":" ∷ []) ++ flat_map (source_word has m.0) labels) ++ codes "\n"

-- the line tells exactly the labels from which chains lead to m
abbrev pub IsLine : List Edge → LabelNames → ℕ × List ℕ → List ℕ → Type 0
IsLine edges labels m line = (has : ℕ → Bool) × AreSources edges m.0 has × (line ≡ source_line labels has m)

-- a line for each of these labels
abbrev pub AreLines : List Edge → LabelNames → LabelNames → List ℕ → Type 0
AreLines edges labels [] text = text ≡ []
AreLines edges labels (m ∷ ms) text =
    (line : List ℕ) × (rest : List ℕ) × IsLine edges labels m line × AreLines edges labels ms rest × (text ≡ line ++ rest)
