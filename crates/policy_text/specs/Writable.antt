-- Policies and certificates that are read back from the text that is written of them: it passes no limit of such texts. That
-- names are names, edges stand in their order, and numbers fit 32 bits, their types keep.
use Rattle.std.specs.Prelude.{◌<◌, ◌≤◌, ◌^◌, List, length, All, AllPairs, IsTrue}
use Rattle.policy_text.specs.Below.{Edge, IsSorted, Policy, is_name}
use Rattle.policy_text.specs.PolicyFaults.{labels_limit, objects_limit, edges_limit}
use Rattle.policy_text.specs.PolicyLines.{policy_text, cert_text}
use Rattle.policy_text.specs.PolicyTexts.{bytes_limit, AreLabelled}

pub record IsWritable (policy : Policy) : Type 0 where
  pub rising : AllPairs (λ l m. l.0 < m.0) policy.labels
  pub numbers : All (λ l. l.0 < labels_limit) policy.labels
  pub labels : length policy.labels ≤ labels_limit
  pub names : All (λ o. IsTrue (is_name o.0)) policy.objects
  pub objects : length policy.objects ≤ objects_limit
  pub order : IsSorted policy.edges
  pub edges : length policy.edges ≤ edges_limit
  pub bytes : length (policy_text policy) ≤ bytes_limit

-- under a policy, which has the labels of the certificate
pub record IsWritableCert (policy : Policy) (cert : List Edge) : Type 0 where
  pub labelled : AreLabelled policy cert
  pub small : All (λ e. (e.from < 2 ^ 32) × (e.to < 2 ^ 32)) cert
  pub order : IsSorted cert
  pub edges : length cert ≤ edges_limit
  pub bytes : length (cert_text cert) ≤ bytes_limit
