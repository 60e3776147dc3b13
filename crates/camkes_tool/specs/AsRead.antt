-- What holds of whatever is read of the three texts that are written of a build, whoever reads them.
use Rattle.std.specs.Prelude.{◌≡◌, ◌≢◌, ◌↔◌, ℕ, List, Ok}
use Rattle.camkes_tool.specs.Below.{Authority, Build, Edge, IsCertText, IsLabelling, IsPolicyText, Judged, Labels, Policy, Spec, Text, Verdict, Yes, canonical, cert_text, object_labels, policy_text}
use Rattle.assigned_laws.specs.Texts.{IsAssignedText, OfTexts}
use Rattle.cap_machine.specs.Runs.{Reaches}

-- the capDL text says this spec, the policy text this policy, and the policy gives the spec's objects these labels
pub record IsReadAs (b : Build) (spec : Spec) (policy : Policy) (labels : Labels) : Type 0 where
  pub capdl : Text (canonical b.spec) spec
  pub policy_is : IsPolicyText (policy_text b.policy) policy
  pub labelled : IsLabelling spec policy (Ok labels)

-- some run of the spec reaches the authority, from the label that has one text in the policy, over the label that has another
abbrev pub ReachesText : Spec → Policy → Labels → List ℕ → Authority → List ℕ → Type 0
ReachesText spec policy labels from a to = OfTexts policy.labels (λ l m. Reaches spec labels.by_object l a m) from to

-- They are read as what was written. Whatever is read of them, threads of the capDL reach between labels of the policy, over
-- every interleaving of steps, exactly what the connectors of the source assign; and whatever judges the three as the checker
-- does says yes.
pub record HoldsAsRead (b : Build) : Type 0 where
  pub read : IsReadAs b b.spec b.policy (object_labels b)
  pub reaches : (spec : Spec) (policy : Policy) (labels : Labels) → IsReadAs b spec policy labels
      → (from : List ℕ) (a : Authority) (to : List ℕ) → from ≢ to
      → ReachesText spec policy labels from a to ↔ IsAssignedText b.meaning.source from a to
  pub yes : (spec : Spec) (policy : Policy) (labels : Labels) (cert : List Edge) (verdict : Verdict)
      → IsReadAs b spec policy labels → IsCertText policy (cert_text b.cert) cert
      → Judged spec labels.by_object policy.edges cert verdict → verdict ≡ Yes
