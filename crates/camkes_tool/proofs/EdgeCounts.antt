-- How many edges a policy and a certificate have.
use Rattle.std.proofs.Common.{rules}
use Rattle.camkes_tool.proofs.BackCommon.{Bool, Domain, Edge, IsCertificateOf, IsFlat, IsIn, IsLockEdge, IsPolicyOf, IsSorted, List, None, Option, Tables, [], arith, assemblies, codes, domain_label, edge, edge_count, false}
use Rattle.camkes_tool.proofs.BackCommon.{first_edge_fault, gather, has, has_in, in_gather, in_has, in_left, in_map, in_right, inl, inr, length, length-append, ltb-false, map, nat_lt, refl, subst, suc, sym, true, ℕ, ◌*◌, ◌++◌}
use Rattle.camkes_tool.proofs.BackCommon.{◌+◌, ◌∙◌, ◌∷◌, ◌≡◌, ◌≤◌}
use Rattle.adl_ast.specs.declared.composition.Assembly.{Assembly}
use Rattle.adl_meaning.specs.declared.item_at.ItemAt.{ItemAt}
use Rattle.arch_policy.proofs.Counted.{table_counts}
use Rattle.arch_policy.proofs.Listed.{triples_are_policy}
use Rattle.arch_policy.proofs.Given.{an_authority}
use Rattle.cap_model.proofs.EdgeOrder.{edges_same}
use Rattle.authorities.specs.Authorities.{authorities}
use Rattle.reach_laws.proofs.EndLabels.{lock_domain}
use Rattle.cap_model.proofs.EdgeLists.{no_more}

-- ---- the policy

few_triples : (t : Tables) (a : ItemAt × Assembly) → assemblies t.source ≡ a ∷ [] → first_edge_fault t ≡ None
    → edge_count t ≤ 200000
few_triples t a one none = search (rules, nat_lt, edge_count, codes, ltb-false)

pub few_edges : (t : Tables) (a : ItemAt × Assembly) (policy : List Edge) → assemblies t.source ≡ a ∷ []
    → first_edge_fault t ≡ None → IsPolicyOf t policy → IsSorted policy
    → length policy ≤ 200000
few_edges t a policy one none is sorted = search (rules, few_triples, has, triples_are_policy, table_counts)

-- ---- the certificate

-- all edges of a label to itself
abbrev own : ℕ → List Edge
own l = map (λ a. edge l a l) authorities

abbrev owns : Tables → List Edge
owns t = gather (λ d (x : Domain). own (domain_label t d)) t.flat.domains

own_count : (f : ℕ → ℕ) (xs : List Domain) → length (gather (λ d (x : Domain). own (f d)) xs) ≡ 12 * length xs
own_count f [] = refl
own_count f (x ∷ xs) =
    let a = length-append (own (f 0)) (gather (λ d (x : Domain). own (f (suc d))) xs) in
    let b = own_count (λ d. f (suc d)) xs in
    omega (arith, a, b)

module _ (t : Tables) (flat : IsFlat t.source t.flat) where
  lock_listed : (e : Edge) → IsLockEdge t e → has (owns t) e ≡ true
  lock_listed e k =
      let d = lock_domain t flat k.lock in
      let l = domain_label t k.lock.domain in
      let same : edge l e.authority l ≡ e = edges_same (edge l e.authority l) e (sym k.from) refl (sym k.to) in
      let i = in_map (λ a. edge l a l) e.authority authorities (an_authority e.authority) in
      in_has e (owns t) (in_gather (λ d (x : Domain). own (domain_label t d)) e t.flat.domains k.lock.domain d.0 d.1
      (subst (λ z. IsIn z (own l)) same i))

  has_left : (e : Edge) (xs ys : List Edge) → has xs e ≡ true → has (xs ++ ys) e ≡ true
  has_left e xs ys h = in_has e (xs ++ ys) (in_left e xs ys (has_in e xs h))

  has_right : (e : Edge) (xs ys : List Edge) → has ys e ≡ true → has (xs ++ ys) e ≡ true
  has_right e xs ys h = in_has e (xs ++ ys) (in_right e xs ys (has_in e ys h))

  pub few_certified : (policy cert : List Edge) → IsPolicyOf t policy → IsCertificateOf t cert → IsSorted cert
      → length cert ≤ length policy + 12 * length t.flat.domains
  few_certified policy cert is certified sorted =
      let all = no_more cert (policy ++ owns t) sorted (λ e h. elim ((certified e).0 h) [
        | inl r ↦ has_left e policy (owns t) ((is e).1 r)
        | inr k ↦ has_right e policy (owns t) (lock_listed e k)
      ]) in
      let a = length-append policy (owns t) in
      let b = own_count (domain_label t) t.flat.domains in
      omega (arith, all, a, b)
