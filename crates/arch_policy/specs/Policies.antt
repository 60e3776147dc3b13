-- The policy of a system has the edges that are assigned: those between different labels that have a reason. There may be at
-- most 200,000; the fault of this limit stands at the keyword of the assembly. The certificate has besides, within the label
-- of a domain with a lock, what the domain may do with the lock.
use Rattle.std.specs.Prelude.{◌≡◌, ◌↔◌, ◌⊎◌, ℕ, true, nat_lt, if◌then◌else◌, List, codes, Option, None}
use Rattle.arch_policy.specs.Below.{Edge, RW, kind_confers, same_edge}
use Rattle.std.specs.Set.{distinct_count}
use Rattle.cap_model.specs.Tables.{has}
use Rattle.cam_base.specs.declared.place.Fault.{Fault}
use Rattle.cap_model.specs.declared.kind.Kind.TheVariants.{Notification}
use Rattle.cspace_layout.specs.Limit.{limit_fault}
use Rattle.arch_policy.specs.Ends.{LockAt}
use Rattle.arch_policy.specs.Reasons.{IsReasoned}
use Rattle.arch_policy.specs.Tables.{Tables, domain_label}
use Rattle.arch_policy.specs.Triples.{triples}

abbrev pub IsPolicyOf : Tables → List Edge → Type 0
IsPolicyOf t policy = (e : Edge) → (has policy e ≡ true) ↔ IsReasoned t e

-- how many different edges are assigned
abbrev pub edge_count : Tables → ℕ
edge_count t = distinct_count same_edge (triples t)

abbrev pub first_edge_fault : Tables → Option Fault
first_edge_fault t = if nat_lt 200000 (edge_count t) then limit_fault t.source (codes "edges") else None

pub record IsLockEdge (t : Tables) (e : Edge) : Type 0 where
  pub lock : LockAt t.source t.flat
  pub from : e.from ≡ domain_label t lock.domain
  pub conferred : kind_confers Notification RW e.authority ≡ true
  pub to : e.to ≡ domain_label t lock.domain

abbrev pub IsCertificateOf : Tables → List Edge → Type 0
IsCertificateOf t cert = (e : Edge) → (has cert e ≡ true) ↔ (IsReasoned t e ⊎ IsLockEdge t e)
