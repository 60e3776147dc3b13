-- The least violation: the least rule that fails, and of its violations the least by (first edge, lacking edge, second
-- edge) in the order of edges.
use Rattle.std.specs.Prelude.{◌≡◌, ◌<◌, ℕ, List, [], ◌∷◌, Option, Some, None}
use Rattle.cert_check.specs.Below.{AtMost, Edge, Finds, Spec}
use Rattle.cert_check.specs.declared.rule.Rule.{Rule}
use Rattle.cert_check.specs.declared.rule.Rule.TheVariants as rules
use Rattle.cert_check.specs.declared.violation.Violation.{Violation}
use Rattle.cert_check.specs.Rules.{rule_number}
use Rattle.cert_check.specs.Violations.{BreaksBoot, BreaksControl, BreaksGrant, BreaksCall, BreaksGrantBack, BreaksBind, BreaksPolicy}

-- the order by (first, lack, second)
pub record NotAfter (v : Violation) (w : Violation) : Type 0 where
  pub by_first : AtMost v.first w.first
  pub by_lack : v.first ≡ w.first → AtMost v.lack w.lack
  pub by_second : v.first ≡ w.first → v.lack ≡ w.lack → AtMost v.second w.second

-- the least violation with this property, or None where there is none
abbrev pub FindsLeast : (Violation → Type 0) → Option Violation → Type 0
FindsLeast P None = (v : Violation) → P v → ⊥
FindsLeast P (Some v) = P v × ((w : Violation) → P w → NotAfter v w)

-- these are the edges of the least violation with this property
abbrev pub LeastPair : (Violation → Type 0) → List (Option Edge) → Edge → Type 0
LeastPair P have lack = (v : Violation) × FindsLeast P (Some v) × (have ≡ Some v.first ∷ Some v.second ∷ []) × (lack ≡ v.lack)

abbrev pub LeastAlone : (Edge → Type 0) → List (Option Edge) → Edge → Type 0
LeastAlone P have lack = Finds P (Some lack) × (have ≡ None ∷ None ∷ [])

-- the rule has no violation
abbrev pub Holds : Spec → List ℕ → List Edge → List Edge → Rule → Type 0
Holds spec labels policy cert rules.BootEdges = Finds (BreaksBoot spec labels cert) None
Holds spec labels policy cert rules.Control = FindsLeast (BreaksControl cert) None
Holds spec labels policy cert rules.Grant = FindsLeast (BreaksGrant cert) None
Holds spec labels policy cert rules.Call = FindsLeast (BreaksCall cert) None
Holds spec labels policy cert rules.GrantBack = FindsLeast (BreaksGrantBack cert) None
Holds spec labels policy cert rules.Bind = FindsLeast (BreaksBind cert) None
Holds spec labels policy cert rules.Policy = Finds (BreaksPolicy policy cert) None

-- these are the edges of the rule's least violation
abbrev pub LeastOf : Spec → List ℕ → List Edge → List Edge → Rule → List (Option Edge) → Edge → Type 0
LeastOf spec labels policy cert rules.BootEdges have lack = LeastAlone (BreaksBoot spec labels cert) have lack
LeastOf spec labels policy cert rules.Control have lack = LeastPair (BreaksControl cert) have lack
LeastOf spec labels policy cert rules.Grant have lack = LeastPair (BreaksGrant cert) have lack
LeastOf spec labels policy cert rules.Call have lack = LeastPair (BreaksCall cert) have lack
LeastOf spec labels policy cert rules.GrantBack have lack = LeastPair (BreaksGrantBack cert) have lack
LeastOf spec labels policy cert rules.Bind have lack = LeastPair (BreaksBind cert) have lack
LeastOf spec labels policy cert rules.Policy have lack = LeastAlone (BreaksPolicy policy cert) have lack

pub record Least (spec : Spec) (labels : List ℕ) (policy : List Edge) (cert : List Edge) (rule : Rule) (have : List (Option Edge))
    (lack : Edge) : Type 0 where
  pub earlier : (r : Rule) → rule_number r < rule_number rule → Holds spec labels policy cert r
  pub least : LeastOf spec labels policy cert rule have lack
